-- The Standard's "EUC-KR encoder".
use Rattle.std.specs.Prelude.{ℕ, List, [], ◌∷◌, if◌then◌else◌}
use Rattle.std.specs.Char.{is_ascii}
use Rattle.legacy_tables.specs.Pointers.{index_pointer_of}
use Rattle.legacy_standard.specs.TextQueue.{TextOutcome, bytes, bytes_or_error, pointer_bytes}

-- the result of the "EUC-KR encoder" for a code point, by index EUC-KR
unfoldable pub euc_kr_encodes : List ℕ → ℕ → TextOutcome
euc_kr_encodes index c =
    if is_ascii c then bytes (c ∷ [])
    else bytes_or_error (pointer_bytes 190 0x81 0x41) (index_pointer_of index c) c
