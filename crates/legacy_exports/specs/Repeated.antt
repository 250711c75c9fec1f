-- Conversions by one coder, one after the other.
use Rattle.std.specs.Prelude.{ℕ, ◌+◌, List, []}

-- Conversions, each from the state that the one before left and to the beginning of the output: their number, the
-- state after the last, and what the last one wrote.
pub data Repeats {State : Type 0} (Converts : State → State → List ℕ → Type 0) (before : State) : ℕ → State → List ℕ → Type 0 where
  none : Repeats Converts before 0 before []
  one_more : (times : ℕ) (now : State) (earlier : List ℕ) → Repeats Converts before times now earlier →
      (after : State) (written : List ℕ) → Converts now after written →
      Repeats Converts before (times + 1) after written

-- the same, to some state
abbrev pub RepeatsFrom : {State : Type 0} → (State → State → List ℕ → Type 0) → ℕ → List ℕ → State → Type 0
RepeatsFrom {State = State} Converts times written before = (after : State) × Repeats Converts before times after written
