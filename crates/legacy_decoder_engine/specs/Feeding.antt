-- The result of a decoder for a step of its machine.
use Rattle.std.specs.{Prelude.{◌≡◌, ℕ, List, [], ◌∷◌, ◌++◌, drop, length, true, false}, Char.IsScalar}
use Rattle.{legacy_base.specs.Fronts.{reads, malformed}, legacy_decoder_engine.specs.Steps.{Step, hold, finish, leave, step_held}}
use Rattle.legacy_decoder_engine.specs.declared.moves.Fed.{TheVariants.{Nothing, One, Two, MalformedSequence}, Fed}

-- the result of a sequence with these scalars: none, one, or two
abbrev pub fed_form : List ℕ → Fed
fed_form [] = Nothing
fed_form (c ∷ []) = One c
fed_form (c ∷ d ∷ scalars) = Two c d

-- the result of a step at a byte after these held-back bytes
abbrev pub fed_of : Step → List ℕ → ℕ → Fed
fed_of hold held b = Nothing
fed_of (finish (reads n scalars)) held b = fed_form scalars
fed_of (finish (malformed n)) held b = MalformedSequence n (length (drop n (held ++ b ∷ []))) false
fed_of (leave n) held b = MalformedSequence n (length (drop n held)) true

-- the scalars of a result are Unicode scalar values
abbrev pub HasScalars : Fed → Type 0
HasScalars (One c) = IsScalar c
HasScalars (Two c d) = IsScalar c × IsScalar d
HasScalars fed = Unit {0}

-- a decoder took a step at a byte: its result is `fed`, and it now holds back `kept`
pub record Took (step : Step) (held : List ℕ) (b : ℕ) (fed : Fed) (kept : List ℕ) : Type 0 where
  pub answer : fed ≡ fed_of step held b
  pub holds : kept ≡ step_held step held b
  pub scalar : HasScalars fed
