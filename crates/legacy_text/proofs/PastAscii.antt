-- The bits of the bytes past ASCII.
use Rattle.std.proofs.Common.{◌≡◌, ◌≢◌, ◌↔◌, ◌∙◌, not, nat_eq, false, take, ℕ, ◌+◌, ◌/◌, ◌^◌, ◌<◌, ◌≤◌, List, length, get_or, w64, ap, refl, arith}
use Rattle.std.proofs.lemmas.{List.{get_or-take, length-take-le}, Bool.Decides.nat_tests, Nat.{shr-shr, Bits.{bit_at-lt, bit_at-zero, bit_at-trailing_zeros}}}
use Rattle.std.specs.Int.{trailing_zeros, Count.trailing_of_zero}
use Rattle.legacy_text.{specs.PastAscii.{ArePast, ArePastFrom}, proofs.Ascii.{mask_from, mask_bit, none_past, lowest_past}}

pub past_bits : (block : List ℕ) → length block ≡ 64 → ArePast (mask_from 128 64 block) block
past_bits block long i h = grind (arith, nat_tests, mask_bit 128 refl 64 block (omega arith) long i, bit_at-lt)

-- the bits from the place after the next byte past ASCII on
pub past_next : (past n at : ℕ) (bytes : List ℕ) → ArePastFrom past bytes at → ArePastFrom (past / 2 ^ n / 2 ^ 1) bytes (at + n + 1)
past_next past n at bytes are k h =
    let place : at + (n + 1 + k) ≡ at + n + 1 + k = omega arith in
    simp shr-shr (rw place at (are (n + 1 + k) (omega arith)))

module _ (past at : ℕ) (bytes : List ℕ) (small : past < 2 ^ 64) (are : ArePastFrom past bytes at) where
  -- the bytes before the lowest bit are ASCII
  pub ascii_before : (k : ℕ) → k < trailing_zeros w64 past → at + k < 64 → get_or bytes (at + k) 0 < 128
  ascii_before k h within = grind (arith, nat_tests, bit_at-zero k, are k within, bit_at-trailing_zeros w64 past)

  -- and the byte at it is not
  pub past_at : trailing_zeros w64 past < 64 → at + trailing_zeros w64 past < 64 → 128 ≤ get_or bytes (at + trailing_zeros w64 past) 0
  past_at some within =
      let none : past ≡ 0 → trailing_zeros w64 past ≡ 64 = λ e. ap (trailing_zeros w64) e ∙ trailing_of_zero 64 in
      grind (arith, nat_tests, are (trailing_zeros w64 past) within, bit_at-trailing_zeros w64 past)

-- whether one of eight bytes is past ASCII
module _ (src : List ℕ) (long : 8 ≤ length src) where
  none_eight : mask_from 128 8 (take 8 src) ≡ 0 → (k : ℕ) → k < 8 → get_or src k 0 < 128
  none_eight none k h = rw (get_or-take 8 src k 0 h) at (none_past 8 (take 8 src) (omega arith) (length-take-le 8 src long) none k)

  some_eight : mask_from 128 8 (take 8 src) ≢ 0 → ((k : ℕ) → k < 8 → get_or src k 0 < 128) → ⊥
  some_eight some all =
      let lowest = lowest_past 8 (take 8 src) (omega arith) (length-take-le 8 src long) some in
      omega (arith, lowest.1, rw (get_or-take 8 src _ 0 lowest.0) at lowest.1, all _ lowest.0)

  pub no_eight : not (nat_eq (mask_from 128 8 (take 8 src)) 0) ≡ false ↔ ((k : ℕ) → k < 8 → get_or src k 0 < 128)
  no_eight = (λ e. none_eight (grind (arith, nat_tests, e)), λ all. grind (arith, nat_tests, some_eight, all))
