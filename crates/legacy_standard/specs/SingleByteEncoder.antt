-- The Standard's "single-byte encoder".
use Rattle.std.specs.Prelude.{ℕ, ◌+◌, List, [], ◌∷◌, Option, Some, None, if◌then◌else◌}
use Rattle.std.specs.Char.{is_ascii}
use Rattle.legacy_tables.specs.Pointers.{index_pointer_of}
use Rattle.legacy_standard.specs.TextQueue.{TextOutcome, bytes, error_with}

-- the steps after the index pointer is known
abbrev pub single_byte_at : Option ℕ → ℕ → TextOutcome
single_byte_at None c = error_with c
single_byte_at (Some pointer) c = bytes ((pointer + 0x80) ∷ [])

-- the result of the "single-byte encoder" for a code point, by the index of the encoding
unfoldable pub single_byte_encodes : List ℕ → ℕ → TextOutcome
single_byte_encodes index c =
    if is_ascii c then bytes (c ∷ [])
    else single_byte_at (index_pointer_of index c) c
