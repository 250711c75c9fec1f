-- The pointer that an encoder uses for a scalar decodes to that scalar.
use Rattle.std.proofs.{lemmas.Bool.Decides.nat_tests, Common.{arith, ◌≡◌, ℕ, ◌<◌, List, length, Bool, true, Option, Some}, lemmas.Bool.ne_eqb}
use Rattle.legacy_tables.specs.Indexes.{idx}
use Rattle.legacy_tables.proofs.Pointers.{IsChosen, taken-within}

-- the pointer may be used, is within the index, and its entry is the scalar
pub record LeadsBack (may : ℕ → Bool) (index : List ℕ) (c p : ℕ) : Type 0 where
  pub may_use : may p ≡ true
  pub has : idx index p ≡ Some c
  pub below : p < length index

pub leads_back : (may : ℕ → Bool) (index : List ℕ) (c : ℕ) (o : Option ℕ) → IsChosen may index c o → (p : ℕ) → o ≡ Some p → LeadsBack may index c p
leads_back may index c o taken p e = grind (arith, nat_tests, ne_eqb, taken-within)
