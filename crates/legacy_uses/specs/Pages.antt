-- What a page that grows by pieces of an input lacks room for.
use Rattle.std.specs.Prelude.{◌≡◌, ◌≤◌, ◌+◌, ◌^◌, ◌⊎◌, ℕ, List, length, Some, None}
use Rattle.legacy_base.specs.States.{DecoderState}
use Rattle.legacy_base.specs.Lengths.{query_answer, to_utf8}

-- the length query returns `None` for the piece, or the page with the queried length after it is too long
abbrev pub IsPageTooLong : DecoderState → List ℕ → List ℕ → Type 0
IsPageTooLong state piece page =
    (query_answer to_utf8 state (length piece) ≡ None)
    ⊎ ((need : ℕ) × (query_answer to_utf8 state (length piece) ≡ Some need) × (2 ^ 64 ≤ length page + need))
