-- The Standard's "x-user-defined encoder".
use Rattle.std.specs.Prelude.{ℕ, ◌+◌, ◌-◌, [], ◌∷◌, if◌then◌else◌}
use Rattle.std.specs.Int.{is_in_range}
use Rattle.std.specs.Char.{is_ascii}
use Rattle.legacy_standard.specs.TextQueue.{TextOutcome, bytes, error_with}

-- the result of the "x-user-defined encoder" for a code point
unfoldable pub user_defined_encodes : ℕ → TextOutcome
user_defined_encodes c =
    if is_ascii c then bytes (c ∷ [])
    else if is_in_range 0xF780 0xF7FF c then bytes ((c - 0xF780 + 0x80) ∷ [])
    else error_with c
