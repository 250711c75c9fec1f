-- Orders of pointers that passed their check, and look-ups in them.
use Rattle.std.proofs.Common.{◌≡◌, ◌≢◌, ◌∙◌, ℕ, zero, suc, ◌+◌, ◌≤◌, ◌<◌, List, [], ◌∷◌, length, get_or, slice_index, refl, sym, ap, subst, arith, Some, None}
use Rattle.std.proofs.{Common.{Option, true, false, find, Bool, cond, eq-eqb, ◌==◌, nat_lt, inl, inr, drop, drop-cons, add-one}, lemmas.Bool.cases_lt}
use Rattle.std.proofs.{lemmas.Bool.{eqb-true}, lemmas.List.get_or_default}
use Rattle.std.proofs.{lemmas.List.Folds.{list_any_at, Any-from_list_any}, Math.ListN.drop_of_length-le}
use Rattle.std.proofs.lemmas.List.Sorted.{IsNonDecreasingBy-from_all_adjacent}
use Rattle.std.specs.{List.list_any, List.Sorted.IsNonDecreasingBy}
use Rattle.std.proofs.lemmas.Bool.Decides.{nat_tests}
use Rattle.legacy_tables.specs.{declared.tables.packed.PackedPart.PackedPart, Orders.{IsLookup, IsOrder, RisesBy, order_pointer}, Packed.{may_use, pointer_of}}
use Rattle.legacy_tables.specs.Packed.{takes_last, is_pointer_in_order, order_fault_from, order_fault, is_lacking, order_difference}
use Rattle.legacy_tables.proofs.{FirstPlaces.{carried, each-fine, find-at, find-absent, find-place, find-none-at}, Pointers.{first-least, taken-within}}
use Rattle.legacy_tables.proofs.PackedPointers.{pointer-taken, pointer-same}

-- ---- the order, as a loop reads it

module _ (part : PackedPart) (index order : List ℕ) (place above : ℕ) where
  pub pointers_next : place < length order → order_fault_from part index place above (drop place order)
      ≡ cond (is_pointer_in_order part index above (get_or order place 0))
      (order_fault_from part index (place + 1) (slice_index index (get_or order place 0)) (drop (place + 1) order)) (Some place)
  unfolding order_fault_from
  pointers_next h = rw (drop-cons order place 0 h, add-one) refl

  pub pointers_end : length order ≤ place → order_fault_from part index place above (drop place order) ≡ None
  unfolding order_fault_from
  pointers_end h = rw (drop_of_length-le order h) refl

-- ---- an order without a fault

module _ (part : PackedPart) (index : List ℕ) where
  -- a pointer of the order: the codec may use it, and its scalar is above a number
  abbrev IsAbove : ℕ → ℕ → Type 0
  IsAbove above q = (may_use part q ≡ true) × (above < slice_index index q)

  step : (place above p : ℕ) (order : List ℕ) → order_fault_from part index place above (p ∷ order) ≡ None
      → IsAbove above p × (order_fault_from part index (place + 1) (slice_index index p) order ≡ None)
  unfolding order_fault_from
  step place above p order e = grind (arith, nat_tests)

-- the place of a pointer that the order contains
place_of : (order : List ℕ) (q : ℕ) → list_any (λ r. q == r) order ≡ true → (i : ℕ) × (i < length order) × (get_or order i 0 ≡ q)
place_of order q h =
    let a = Any-from_list_any (λ r. q == r) order h in
    (a.0, a.2, get_or_default order a.0 0 a.1 a.2 ∙ a.3 ∙ sym (eqb-true q a.1 a.4))

-- ---- the pointers that an order gives

-- the order that a binary search requires
pub order-rising : (index order : List ℕ) → RisesBy index order → IsNonDecreasingBy (λ p. slice_index index p) order
order-rising index order rises = λ i j d h l. elim (cases_lt i j) [
  | inl m ↦
      let above = rises.above i j m l in
      rw (get_or_default order i d 0 (omega arith), get_or_default order j d 0 l) (omega arith)
  | inr m ↦ let same : i ≡ j = omega arith in rw same (omega arith)
]

module _ (index order : List ℕ) (rises : RisesBy index order) (c : ℕ) where
  -- at the one place that has the scalar
  pub order-at : (n : ℕ) → n < length order → slice_index index (slice_index order n) ≡ c → order_pointer index order c ≡ Some (slice_index order n)
  unfolding order_pointer
  order-at n h is = grind (arith, nat_tests, find-at (λ p. slice_index index p == c) 0 order n, rises.above)

  -- if no place has the scalar
  pub order-absent : (n : ℕ) → ((k : ℕ) → k < n → slice_index index (slice_index order k) < c)
      → ((k : ℕ) → n ≤ k → k < length order → c ≤ slice_index index (slice_index order k))
      → (n < length order → slice_index index (slice_index order n) ≢ c) → order_pointer index order c ≡ None
  unfolding order_pointer
  order-absent n below from other =
      find-absent (λ p. slice_index index p == c) 0 order (λ k h. grind (arith, nat_tests, below, rises.above, from))

module _ (part : PackedPart) (index order : List ℕ) (none : order_fault part index order ≡ None) where
  fine : (k d : ℕ) → k < length order → IsAbove part index (carried (order_fault_from part index) (IsAbove part index) (slice_index index) (step part index)
      0 order k d) (get_or order k d)
  fine = each-fine (order_fault_from part index) (IsAbove part index) (slice_index index) (step part index) 0 0 order none

  -- an order without a fault rises
  pub order-rises : RisesBy index order
  order-rises = record {
    above = λ i j h l.
        let first = (fine (suc i) 0 (omega arith)).1 in
        let rest = IsNonDecreasingBy-from_all_adjacent (λ p. slice_index index p) order (λ k d m.
        let up = (fine (suc k) d (omega arith)).1 in
        rw (add-one k) (omega arith)) (suc i) j 0 (omega arith) l in
        omega arith;
  }

  each_above : (k : ℕ) → k < length order → IsAbove part index 0 (get_or order k 0)
  each_above zero h = fine zero 0 h
  each_above (suc k) h = let f = fine (suc k) 0 h in let low = f.1 in (f.0, omega arith)

  member : (q : ℕ) → list_any (λ r. q == r) order ≡ true → IsAbove part index 0 q
  member q h = let at = place_of order q h in subst (IsAbove part index 0) at.2 (each_above at.0 at.1)

  -- a look-up in it returns its pointers
  pub order-lookup : IsLookup part index order (order_pointer index order)
  unfolding order_pointer
  order-lookup = record {
    usable = λ q h. (member q h).0;
    mapped = λ q h. (member q h).1;
    found = λ c q e.
        let f = find-place (λ p. slice_index index p == c) 0 order q e in
        (list_any_at (λ r. q == r) order f.0 0 f.1 (eq-eqb q _ (sym f.2)), eqb-true (slice_index index q) c f.3);
    only = λ c q h e.
        let at = place_of order q h in
        order-at index order order-rises c at.0 at.1 (ap (slice_index index) at.2 ∙ e) ∙ ap Some at.2;
  }

-- ---- whether an order lacks the scalar of a pointer

module _ (part : PackedPart) (index order : List ℕ) (lookup : ℕ → Option ℕ) (is : IsLookup part index order lookup) where
  -- if the scalar of the pointer used is not missing, the look-up returns the pointer
  held : (c s : ℕ) → pointer_of part index c ≡ Some s → is_lacking part index order s ≡ false → lookup c ≡ Some s
  held c s e there = let used = (pointer-taken part index c).chosen s e in grind (arith, is.only c s)

  module _ (p c : ℕ) (at : c ≡ slice_index index p) (mapped : c ≢ 0) (usable : may_use part p ≡ true) where
    -- the pointer used
    some : (s : ℕ) × (pointer_of part index c ≡ Some s)
    some = go (pointer_of part index c) refl
      where
        go : (o : Option ℕ) → pointer_of part index c ≡ o → (s : ℕ) × (pointer_of part index c ≡ Some s)
        go None z = absurd ((pointer-taken part index c).missing z p usable (sym at) mapped)
        go (Some s) z = (s, z)

    stands : slice_index index some.0 ≡ c
    stands = ((pointer-taken part index c).chosen some.0 some.1).1

    -- the scalar is missing unless the look-up returns the pointer used
    lacks : (t : Bool) → (t ≡ false → lookup c ≡ Some some.0) → (t ≡ true → lookup c ≡ Some some.0 → ⊥)
        → t ≡ is_lacking part index order p
    lacks t same other = grind (arith, is.found, is.only, stands)

    pub lacks-none : lookup (slice_index index p) ≡ None → true ≡ is_lacking part index order p
    lacks-none e = grind (arith, lacks true)

    module _ (q : ℕ) (found : lookup (slice_index index p) ≡ Some q) where
      pub lacks-last : (t : Bool) → (t ≡ false → pointer_of part index c ≡ Some q) → (t ≡ true → pointer_of part index c ≡ Some q → ⊥)
          → t ≡ is_lacking part index order p
      lacks-last t same other = grind (arith, lacks t)

      -- the first of the scalar's pointers is used, except for the six scalars of Big5
      least : takes_last part c ≡ false → (k : ℕ) → may_use part k ≡ true → slice_index index k ≡ c → some.0 ≤ k
      least first k u e = grind (arith, first-least)

      pub lacks-first : takes_last part c ≡ false → ((k : ℕ) → k < p → is_lacking part index order k ≡ false)
          → nat_lt p q ≡ is_lacking part index order p
      lacks-first first passed =
          let there = is.found c q (ap lookup at ∙ found) in
          let low = least first q (is.usable q there.0) there.1 in
          let own = least first p usable (sym at) in
          lacks (nat_lt p q) (λ f. grind (arith, nat_tests, held c some.0 some.1, passed some.0)) (λ f z. grind (arith, nat_tests))

  -- if no scalar is missing, the look-up returns the pointers that are used
  pub order-answers : order_difference part index order ≡ None → (c : ℕ) → lookup c ≡ pointer_of part index c
  unfolding order_difference
  order-answers none c = go (pointer_of part index c) (lookup c) refl refl
    where
      go : (o found : Option ℕ) → pointer_of part index c ≡ o → lookup c ≡ found → lookup c ≡ pointer_of part index c
      go (Some s) found z e =
          let within : s < length index = rw z at (taken-within (may_use part) index c (pointer_of part index c) (pointer-taken part index c)) in
          held c s z (find-none-at (is_lacking part index order) 0 (length index) none s (omega arith) (omega arith)) ∙ sym z
      go None None z e = e ∙ sym z
      go None (Some q) z e =
          let there = is.found c q e in
          let high = is.mapped q there.0 in
          let at = there.1 in
          absurd ((pointer-taken part index c).missing z q (is.usable q there.0) there.1 (λ n. absurd (omega arith)))

-- an order of the codec is also one for an index with the same entries
pub order-same : (part : PackedPart) (a b order : List ℕ) → ((p : ℕ) → slice_index a p ≡ slice_index b p) → IsOrder part b order
    → IsOrder part a order
unfolding order_pointer
order-same part a b order same is = record {
  rises = record { above = λ i j h l. rw (same (slice_index order i), same (slice_index order j)) (is.rises.above i j h l) };
  answers = λ c. find-alike c order ∙ is.answers c ∙ sym (pointer-same part c a b same);
}
  where
    find-alike : (c : ℕ) (xs : List ℕ) → find (λ p. slice_index a p == c) xs ≡ find (λ p. slice_index b p == c) xs
    find-alike c [] = refl
    find-alike c (x ∷ xs) = rw (same x, find-alike c xs) refl

pub ruleset lacking = (lacks-none, lacks-first)
