-- The Standard's "EUC-JP encoder".
use Rattle.std.specs.Prelude.{ℕ, ◌+◌, ◌-◌, ◌==◌, List, [], ◌∷◌, Option, if◌then◌else◌}
use Rattle.std.specs.Int.{is_in_range}
use Rattle.std.specs.Char.{is_ascii}
use Rattle.legacy_tables.specs.Pointers.{index_pointer_of, minus_as_hyphen}
use Rattle.legacy_standard.specs.TextQueue.{TextOutcome, bytes, bytes_or_error, pointer_bytes}

-- the steps after the index pointer is known
abbrev pub euc_jp_at : Option ℕ → ℕ → TextOutcome
euc_jp_at = bytes_or_error (pointer_bytes 94 0xA1 0xA1)

-- the result of the "EUC-JP encoder" for a code point, by index jis0208
unfoldable pub euc_jp_encodes : List ℕ → ℕ → TextOutcome
euc_jp_encodes jis0208 c =
    if is_ascii c then bytes (c ∷ [])
    else if c == 0xA5 then bytes (0x5C ∷ [])
    else if c == 0x203E then bytes (0x7E ∷ [])
    else if is_in_range 0xFF61 0xFF9F c then bytes (0x8E ∷ (c - 0xFF61 + 0xA1) ∷ [])
    else euc_jp_at (index_pointer_of jis0208 (minus_as_hyphen c)) (minus_as_hyphen c)
