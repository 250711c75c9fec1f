-- The result of a length query is at least the need.
use Rattle.std.proofs.{Common.{◌≡◌, ℕ, ◌≤◌, List, arith, Some}, lemmas.Nat.mul-le, lemmas.Option.cond_some}
use Rattle.legacy_base.specs.{Formulas.{Formula, Term, to_come, weighed, paired, constant, ◌⊞◌, ◌⊠◌, halved, formula}, Grammar.Grammar, States.DecoderState}
use Rattle.legacy_base.specs.Lengths.{value, has_lengths, answer, LengthQuery, state_formula, query_answer, total_need}

-- the result is the value of the formula
pub answer-value : (f : Formula) (k : ℕ) → answer f ≡ Some k → value f ≡ k
answer-value f k e = (cond_some (has_lengths f) (value f) k e).1

-- the value of a term is monotonic in each of its parts
module _ (n n' m m' u u' : Formula) (hn : value n ≤ value n') (hm : value m ≤ value m') (hu : value u ≤ value u') where
  value-rises : (t : Term) → value (formula t n m u) ≤ value (formula t n' m' u')
  value-rises to_come = hn
  value-rises weighed = hm
  value-rises paired = hu
  value-rises (constant k) = omega arith
  value-rises (a ⊞ b) = let x = value-rises a in let y = value-rises b in omega arith
  value-rises (a ⊠ b) =
      mul-le (value (formula a n m u)) (value (formula b n m u)) (value (formula a n' m' u')) (value (formula b n' m' u')) (value-rises a) (value-rises b)
  value-rises (halved a) = let x = value-rises a in omega arith

-- each formula is monotonic in the number of bytes
pub rises : (query : LengthQuery) (g : Grammar) (held : List ℕ) (m n : ℕ) → m ≤ n →
    value (state_formula query (record { grammar = g; held = held }) m) ≤ value (state_formula query (record { grammar = g; held = held }) n)
rises query g held m n h = grind arith

-- for at most as many bytes, the need is at most the result
pub total_need-answer : (query : LengthQuery) (s : DecoderState) (m n k : ℕ) → m ≤ n → query_answer query s n ≡ Some k → total_need query s m ≤ k
total_need-answer query s m n k h e = grind arith

-- more bytes need at least as much
pub total_need-rises : (query : LengthQuery) (s : DecoderState) (m n : ℕ) → m ≤ n → total_need query s m ≤ total_need query s n
total_need-rises query s m n h = grind arith
