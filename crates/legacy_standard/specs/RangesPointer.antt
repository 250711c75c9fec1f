-- The steps of the Standard's "index gb18030 ranges pointer". `Pointers` of `legacy_tables` has "index pointer", "index
-- Big5 pointer" and "index Shift_JIS pointer".
use Rattle.std.specs.Prelude.{ℕ, ◌+◌, ◌-◌, ◌==◌, nat_le, List, [], ◌∷◌, Option, Some, None, if◌then◌else◌}
use Rattle.std.specs.Option.{option_or}

-- the pointer by the last range whose code point is at most c
abbrev pub offset_pointer : List (ℕ × ℕ) → ℕ → Option ℕ
offset_pointer [] c = None
offset_pointer (r ∷ ranges) c = option_or (offset_pointer ranges c) (if nat_le r.1 c then Some (r.0 + (c - r.1)) else None)

-- "index gb18030 ranges pointer"; no accepted list of ranges contains the last range of the Standard's index (189000,
-- U+10000)
unfoldable pub ranges_pointer : List (ℕ × ℕ) → ℕ → Option ℕ
ranges_pointer ranges c =
    if c == 0xE7C7 then Some 7457
    else if nat_le 0x1_0000 c then Some (189000 + (c - 0x1_0000))
    else offset_pointer ranges c
