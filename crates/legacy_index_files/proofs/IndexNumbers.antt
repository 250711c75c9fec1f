-- The steps and bounds of numbers with at most six digits.
use Rattle.std.proofs.{Common.{◌≡◌, ℕ, ◌+◌, ◌*◌, ◌^◌, ◌<◌, ◌≤◌, List, ◌∷◌, length, add-one, lt-ltb, arith}, Math.Nat.mul-le-mul_left}
use Rattle.std.proofs.Math.Nat.{pow-le-pow_right, pow-suc}
use Rattle.std.specs.Char.{digit_value}
use Rattle.legacy_index_files.specs.IndexLine.{digits_at, past_digits, number_after}

-- the bound for one more digit
pub below_power : (value radix digit count : ℕ) → value < 16 ^ count → radix ≤ 16 → digit < radix
    → value * radix + digit < 16 ^ (count + 1)
below_power value radix digit count small few below =
    rw (add-one, pow-suc) (omega (arith, mul-le-mul_left value few))

-- six digits fit in 32 bits
pub six_digits : (count : ℕ) → count < 6 → 16 ^ (count + 1) ≤ 2 ^ 24
six_digits count few = let most : count + 1 ≤ 6 = omega arith in pow-le-pow_right (omega arith) most

-- the step at a digit
pub record TakesDigit (radix value digit : ℕ) (rest after : List ℕ) : Type 0 where
  pub counted : length (digits_at radix rest) ≡ 1 + length (digits_at radix after)
  pub number : number_after radix value (digits_at radix rest) ≡ number_after radix (value * radix + digit) (digits_at radix after)
  pub past : past_digits radix rest ≡ past_digits radix after

pub takes_digit : (radix value digit first : ℕ) (rest after : List ℕ) → rest ≡ first ∷ after → digit_value first < radix
    → digit ≡ digit_value first
    → TakesDigit radix value digit rest after
takes_digit radix value digit first rest after split below is = grind (arith, lt-ltb)
