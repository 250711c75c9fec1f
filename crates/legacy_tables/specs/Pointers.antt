-- The pointer of an index that an encoder uses for a scalar (Encoding Standard, "Indexes").
use Rattle.std.specs.Prelude.{ℕ, zero, suc, List, Option, Some, None, Bool, true, false, not, ◌&&◌, ◌||◌, ◌==◌}
use Rattle.std.specs.Prelude.{nat_le, nat_lt, if◌then◌else◌, length, slice_index, find}
use Rattle.std.specs.Int.{is_in_range}
use Rattle.std.specs.List.{range_with_len}
use Rattle.std.specs.Option.{option_map_or}
use Rattle.legacy_tables.specs.Indexes.{range}

-- any pointer
abbrev pub every_pointer : ℕ → Bool
every_pointer p = true

-- pointer p may be used, and its scalar is c
abbrev pub is_pointer_of : (ℕ → Bool) → List ℕ → ℕ → ℕ → Bool
is_pointer_of may_use index c p = may_use p && slice_index index p == c

-- the greatest number below n that passes a test
unfoldable pub last_below : (ℕ → Bool) → ℕ → Option ℕ
last_below test zero = None
last_below test (suc n) = if test n then Some n else last_below test n

-- the first usable pointer of c, or none; an entry 0 is no scalar
unfoldable pub first_pointer : (ℕ → Bool) → List ℕ → ℕ → Option ℕ
first_pointer may_use index c =
    if c == 0 then None else find (is_pointer_of may_use index c) (range_with_len 0 (length index))

-- "index pointer": the first pointer of a scalar in an index
abbrev pub index_pointer_of : List ℕ → ℕ → Option ℕ
index_pointer_of index c = first_pointer every_pointer index c

-- the greatest usable pointer of c
unfoldable pub last_pointer : (ℕ → Bool) → List ℕ → ℕ → Option ℕ
last_pointer may_use index c =
    if c == 0 then None else last_below (is_pointer_of may_use index c) (length index)

-- the pointers of index Big5 from lead A1 on, after the first rows of Hong Kong's supplement: 5024 is (0xA1 - 0x81) *
-- 157
abbrev pub is_big5_pointer : ℕ → Bool
is_big5_pointer p = nat_le 5024 p

-- the scalars for which the last pointer is used
abbrev pub takes_last_big5_pointer : ℕ → Bool
takes_last_big5_pointer c =
    ((c == 0x2550 || c == 0x255E) || (c == 0x2561 || c == 0x256A)) || (c == 0x5341 || c == 0x5345)

-- "index Big5 pointer"
abbrev pub big5_pointer_of : List ℕ → ℕ → Option ℕ
big5_pointer_of index c =
    if takes_last_big5_pointer c then last_pointer is_big5_pointer index c
    else first_pointer is_big5_pointer index c

-- all pointers of jis0208 except 8272 to 8835
abbrev pub is_shift_jis_pointer : ℕ → Bool
is_shift_jis_pointer p = not (is_in_range 8272 8835 p)

-- "index Shift_JIS pointer": the least of these
abbrev pub shift_jis_pointer_of : List ℕ → ℕ → Option ℕ
shift_jis_pointer_of jis0208 c = first_pointer is_shift_jis_pointer jis0208 c

-- the pointers of the 94 rows of 94 of JIS X 0208
abbrev pub is_jis0208_pointer : ℕ → Bool
is_jis0208_pointer p = nat_lt p 8836

-- the least of these, for EUC-JP and ISO-2022-JP, whose sequences reach no other pointer
abbrev pub euc_jp_pointer_of : List ℕ → ℕ → Option ℕ
euc_jp_pointer_of jis0208 c = first_pointer is_jis0208_pointer jis0208 c

-- "if code point is U+2212, then set it to U+FF0D" ("Shift_JIS encoder", "EUC-JP encoder", "ISO-2022-JP encoder")
abbrev pub minus_as_hyphen : ℕ → ℕ
minus_as_hyphen c = if c == 0x2212 then 0xFF0D else c

-- the scalar of pointer p of four bytes is c
abbrev pub is_range_pointer_of : List (ℕ × ℕ) → ℕ → ℕ → Bool
is_range_pointer_of ranges c p = option_map_or (λ s. s == c) (range ranges p) false

-- the least pointer of c below n
unfoldable pub first_range_pointer : List (ℕ × ℕ) → ℕ → ℕ → Option ℕ
first_range_pointer ranges c n = find (is_range_pointer_of ranges c) (range_with_len 0 n)

-- "index gb18030 ranges pointer": the pointer of four bytes with the scalar c, or none. The last pointer with a scalar
-- is 1237575.
unfoldable pub range_pointer_of : List (ℕ × ℕ) → ℕ → Option ℕ
range_pointer_of ranges c = if c == 0xE7C7 then Some 7457 else first_range_pointer ranges c 1237576
