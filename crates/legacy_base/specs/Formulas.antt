-- The formulas of lengths, and the terms of each codec.
use Rattle.std.specs.Prelude.{ℕ}

-- a formula: numbers, sums, products, and halves, which are rounded down
infixl 60 ◌⊕◌
infixl 70 ◌⊗◌
pub data Formula : Type 0 where
  number : ℕ → Formula
  ◌⊕◌ : Formula → Formula → Formula
  ◌⊗◌ : Formula → Formula → Formula
  half : Formula → Formula

-- The term of a codec's formula. Its variables are the bytes to come (n), those bytes with the weight of the held-back
-- bytes (m), and their UTF-16 code units.
infixl 60 ◌⊞◌
infixl 70 ◌⊠◌
pub data Term : Type 0 where
  to_come weighed paired : Term
  constant : ℕ → Term
  ◌⊞◌ : Term → Term → Term
  ◌⊠◌ : Term → Term → Term
  halved : Term → Term

-- the formula of a term, by n, m and the code units
abbrev pub formula : Term → Formula → Formula → Formula → Formula
formula to_come n m u = n
formula weighed n m u = m
formula paired n m u = u
formula (constant k) n m u = number k
formula (a ⊞ b) n m u = formula a n m u ⊕ formula b n m u
formula (a ⊠ b) n m u = formula a n m u ⊗ formula b n m u
formula (halved a) n m u = half (formula a n m u)
