-- The pointer that the codec of an order uses, which is the same in indexes with the same entries.
use Rattle.std.proofs.{Common.{◌≡◌, ◌∙◌, ℕ, zero, suc, ◌+◌, List, length, slice_index, sym, arith}, lemmas.List.get_or_past}
use Rattle.legacy_tables.specs.{declared.tables.packed.PackedPart.PackedPart, Packed.{may_use, pointer_of}, Walks.taken_below}
use Rattle.legacy_tables.proofs.{Pointers.{IsChosen, first-taken, last-taken}, Walks.{none-taken, taken-more, taken-empty, taken-whole}}

-- the pointer that a codec uses
pub pointer-taken : (part : PackedPart) (index : List ℕ) (c : ℕ) → IsChosen (may_use part) index c (pointer_of part index c)
pointer-taken part index c = grind (arith, last-taken, first-taken)

module _ (part : PackedPart) (c : ℕ) where
  -- numbers past an index are no pointers
  taken-past : (index : List ℕ) (k : ℕ) → taken_below part index (length index + k) c ≡ pointer_of part index c
  taken-past index zero = let all : length index + 0 ≡ length index = omega arith in rw all (taken-whole part index c)
  taken-past index (suc k) =
      let next : length index + suc k ≡ (length index + k) + 1 = omega arith in
      rw next (taken-empty part index (length index + k) c (get_or_past index (length index + k) 0 (omega arith)) ∙ taken-past index k)

  -- the same pointer is used in two indexes with the same entries
  module _ (a b : List ℕ) (same : (p : ℕ) → slice_index a p ≡ slice_index b p) where
    taken-same : (n : ℕ) → taken_below part a n c ≡ taken_below part b n c
    taken-same zero = none-taken part a c ∙ sym (none-taken part b c)
    taken-same (suc n) =
        let next : suc n ≡ n + 1 = omega arith in
        rw next (taken-more part a n c ∙ rw (same n, taken-same n) (sym (taken-more part b n c)))

    pub pointer-same : pointer_of part a c ≡ pointer_of part b c
    pointer-same =
        let turned : length a + length b ≡ length b + length a = omega arith in
        sym (taken-past a (length b)) ∙ taken-same (length a + length b) ∙ rw turned (taken-past b (length a))
