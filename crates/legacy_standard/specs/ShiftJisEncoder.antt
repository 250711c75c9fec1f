-- The Standard's "Shift_JIS encoder".
use Rattle.std.specs.Prelude.{ℕ, ◌+◌, ◌-◌, ◌/◌, ◌%◌, ◌==◌, ◌||◌, nat_lt, List, [], ◌∷◌, if◌then◌else◌}
use Rattle.std.specs.Int.{is_in_range}
use Rattle.std.specs.Char.{is_ascii}
use Rattle.legacy_tables.specs.Pointers.{minus_as_hyphen, shift_jis_pointer_of}
use Rattle.legacy_standard.specs.TextQueue.{TextOutcome, bytes, bytes_or_error}

-- the leading and the trailing byte of a pointer
abbrev pub shift_jis_pointer_bytes : ℕ → List ℕ
shift_jis_pointer_bytes pointer =
    let leading : ℕ = pointer / 188 in
    let leading_offset : ℕ = if nat_lt leading 0x1F then 0x81 else 0xC1 in
    let trailing : ℕ = pointer % 188 in
    let offset : ℕ = if nat_lt trailing 0x3F then 0x40 else 0x41 in
    (leading + leading_offset) ∷ (trailing + offset) ∷ []

-- the result of the "Shift_JIS encoder" for a code point, by index jis0208
unfoldable pub shift_jis_encodes : List ℕ → ℕ → TextOutcome
shift_jis_encodes jis0208 c =
    if is_ascii c || c == 0x80 then bytes (c ∷ [])
    else if c == 0xA5 then bytes (0x5C ∷ [])
    else if c == 0x203E then bytes (0x7E ∷ [])
    else if is_in_range 0xFF61 0xFF9F c then bytes ((c - 0xFF61 + 0xA1) ∷ [])
    else bytes_or_error shift_jis_pointer_bytes (shift_jis_pointer_of jis0208 (minus_as_hyphen c)) (minus_as_hyphen c)
