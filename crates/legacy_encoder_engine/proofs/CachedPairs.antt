-- A list of codes after one of its ranges was looked up.
use Rattle.std.proofs.{Common.{◌≡◌, ℕ, ◌+◌, ◌<◌, ◌≤◌, List, length, slice_index, false, ◌==◌, arith}, lemmas.Bool.cases_lt}
use Rattle.std.proofs.lemmas.Bool.Decides.{nat_tests}
use Rattle.legacy_base.specs.Encoders.{Codec}
use Rattle.legacy_encoder_engine.specs.CachedPairs.{AreAllPairsOf, IsOutside, IsRightEntry}

-- a scalar outside one scalar is another
pub outside-one : (first c : ℕ) → IsOutside first (first + 1) c → (c == first) ≡ false
outside-one first c out = grind (arith, nat_tests)

pub outside-first : (end c : ℕ) → IsOutside 0 end c → end ≤ c
outside-first end c out = grind arith

-- an entry has the property after a range was looked up, if it had it before or is in the range
pub asked : (Is : ℕ → ℕ → Type 0) (old new : List ℕ) (first end c : ℕ) → ((k : ℕ) → first ≤ k → k < end → Is k (slice_index new k))
    → ((k : ℕ) → IsOutside first end k → slice_index new k ≡ slice_index old k) → (IsOutside first end c → Is c (slice_index old c)) → Is c (slice_index new c)
asked Is old new first end c inside outside before = grind (arith, cases_lt c first, cases_lt c end)

-- a list of right entries has all pairs
pub all-right : (codec : Codec) (pairs : List ℕ) → length pairs ≡ 65536
    → ((c : ℕ) → c < 65536 → IsRightEntry codec c (slice_index pairs c)) → AreAllPairsOf codec pairs
all-right codec pairs all right = grind (arith, right)
