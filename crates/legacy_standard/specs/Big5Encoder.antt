-- The Standard's "Big5 encoder".
use Rattle.std.specs.Prelude.{ℕ, ◌+◌, ◌/◌, ◌%◌, nat_lt, List, [], ◌∷◌, if◌then◌else◌}
use Rattle.std.specs.Char.{is_ascii}
use Rattle.legacy_tables.specs.Pointers.{big5_pointer_of}
use Rattle.legacy_standard.specs.TextQueue.{TextOutcome, bytes, bytes_or_error}

-- the leading and the trailing byte of a pointer
abbrev pub big5_pointer_bytes : ℕ → List ℕ
big5_pointer_bytes pointer =
    let leading : ℕ = pointer / 157 + 0x81 in
    let trailing : ℕ = pointer % 157 in
    let offset : ℕ = if nat_lt trailing 0x3F then 0x40 else 0x62 in
    leading ∷ (trailing + offset) ∷ []

-- the result of the "Big5 encoder" for a code point, by index Big5
unfoldable pub big5_encodes : List ℕ → ℕ → TextOutcome
big5_encodes index c =
    if is_ascii c then bytes (c ∷ [])
    else bytes_or_error big5_pointer_bytes (big5_pointer_of index c) c
