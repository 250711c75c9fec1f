-- The pointer that an encoder uses: a usable pointer of the scalar, either the first or the last one.
use Rattle.std.proofs.Common.{◌≡◌, ◌≢◌, ◌∙◌, ℕ, ◌≤◌, ◌<◌, List, length, slice_index, refl, sym, ap, arith, Some, None, Option, true, false, Bool, ◌&&◌, ◌||◌}
use Rattle.std.proofs.{Common.{cond, min, nat_le, nat_lt, eq-eqb, ◌==◌, inl, inr}, lemmas.Bool.{cases_eq, ne_eqb, and_parts}}
use Rattle.std.proofs.{lemmas.Bool.Decides.nat_tests, lemmas.List.get_or_past}
use Rattle.std.specs.Option.{IfSome, option_map_or, option_or}
use borrow.Author.Tests.{ltb-true, leb-true, lt-ltb, le-leb}
use Rattle.legacy_tables.specs.{Indexes.range, Pointers.{is_shift_jis_pointer, is_pointer_of, first_pointer, last_pointer, big5_pointer_of}}
use Rattle.legacy_tables.specs.Pointers.{is_big5_pointer, is_range_pointer_of, first_range_pointer, range_pointer_of}
use Rattle.legacy_tables.proofs.FirstPlaces.{find-some, find-none, find-none-at, find-first, last-some, last-none, last-is, find-same, find-either}

module _ (may : ℕ → Bool) (index : List ℕ) (c : ℕ) where
  hits : (p : ℕ) → may p ≡ true → slice_index index p ≡ c → is_pointer_of may index c p ≡ true
  hits p u e = grind arith

  -- a pointer that is not the scalar's or is not usable
  not_hit : (k : ℕ) → (may k ≡ true → slice_index index k ≢ c) → is_pointer_of may index c k ≡ false
  not_hit k n = grind arith

  -- a pointer of a scalar that is not 0 is within the index
  within : (p : ℕ) → c ≢ 0 → slice_index index p ≡ c → p < length index
  within p n e = grind (arith, nat_tests, get_or_past)

  pub first-is : c ≢ 0 → (p : ℕ) → p < length index → may p ≡ true → slice_index index p ≡ c
      → ((k : ℕ) → k < p → is_pointer_of may index c k ≡ false) → first_pointer may index c ≡ Some p
  unfolding first_pointer
  first-is n p h u e before = grind (arith, find-some (is_pointer_of may index c) 0 (length index) p, hits)

  pub first-none : ((k : ℕ) → k < length index → is_pointer_of may index c k ≡ false) → first_pointer may index c ≡ None
  unfolding first_pointer
  first-none all = grind (arith, find-none (is_pointer_of may index c) 0 (length index))

  pub last-is-none : ((k : ℕ) → k < length index → is_pointer_of may index c k ≡ false) → last_pointer may index c ≡ None
  unfolding last_pointer
  last-is-none all = grind (arith, last-none)

  -- the pointer used is a usable pointer of the scalar; if none is used, there is none
  pub record IsChosen (o : Option ℕ) : Type 0 where
    pub chosen : (p : ℕ) → o ≡ Some p → (may p ≡ true) × (slice_index index p ≡ c) × (c ≢ 0)
    pub missing : o ≡ None → (p : ℕ) → may p ≡ true → slice_index index p ≡ c → c ≢ 0 → ⊥

  taken_by : (o : Option ℕ) → ((p : ℕ) → o ≡ Some p → is_pointer_of may index c p ≡ true)
      → (o ≡ None → (p : ℕ) → p < length index → is_pointer_of may index c p ≡ false) → IsChosen (cond (c == 0) None o)
  taken_by o some none = grind (arith, within)

  pub first-taken : IsChosen (first_pointer may index c)
  unfolding first_pointer
  first-taken =
      taken_by _ (λ p e. (find-first (is_pointer_of may index c) 0 (length index) p e).passes)
      (λ e p h. find-none-at (is_pointer_of may index c) 0 (length index) e p (omega arith) (omega arith))

  pub last-taken : IsChosen (last_pointer may index c)
  unfolding last_pointer
  last-taken = let last = last-is (is_pointer_of may index c) (length index) in taken_by _ last.passes last.none

  -- the first pointer is the least
  pub first-least : (s p : ℕ) → first_pointer may index c ≡ Some s → may p ≡ true → slice_index index p ≡ c → c ≢ 0 → s ≤ p
  unfolding first_pointer
  first-least s p e u is n = grind (arith, nat_tests, find-first, hits)

-- only the usable pointers within the index matter
module _ (may other : ℕ → Bool) (index : List ℕ) (c : ℕ) where
  pub first-alike : ((k : ℕ) → k < length index → may k ≡ other k) → first_pointer may index c ≡ first_pointer other index c
  unfolding first_pointer
  first-alike same =
      ap (cond (c == 0) None) (find-same (is_pointer_of may index c) (is_pointer_of other index c) 0 (length index)
      (λ k l m. ap (λ b. b && slice_index index k == c) (same k (omega arith))))

  either_and : (a b t : Bool) → ((a || b) && t) ≡ (a && t || b && t)
  either_and a b t = grind arith

  -- if all of some pointers are before others, they are used first
  pub first-either : ((j k : ℕ) → may j ≡ true → other k ≡ true → j < k)
      → first_pointer (λ k. may k || other k) index c ≡ option_or (first_pointer may index c) (first_pointer other index c)
  unfolding first_pointer
  first-either apart = elim (cases_eq c 0) [
    | inl e ↦ rw (eq-eqb c 0 e) refl
    | inr n ↦ rw (ne_eqb c 0 n) (
        find-same (is_pointer_of (λ k. may k || other k) index c) (λ k. is_pointer_of may index c k || is_pointer_of other index c k) 0 (length index)
        (λ k l m. either_and (may k) (other k) (slice_index index k == c))
        ∙ find-either (is_pointer_of may index c) (is_pointer_of other index c) 0 (length index)
        (λ j k p q. apart j k (and_parts (may j) _ p).0 (and_parts (other k) _ q).0))
  ]

-- ---- the pointers that look-ups search

module _ (start end : ℕ) (index : List ℕ) (c : ℕ) where
  abbrev Between : ℕ → Bool
  Between p = nat_le start p && nat_lt p end

  -- the first pointer found from one pointer up to another
  pub first-between : c ≢ 0 → end ≤ length index → (p : ℕ) → start ≤ p → p < end → slice_index index p ≡ c
      → ((k : ℕ) → start ≤ k → k < p → slice_index index k ≢ c) → Some p ≡ first_pointer Between index c
  first-between n within p l h e before =
      sym (first-is Between index c n p (omega arith) (rw (le-leb start p l, lt-ltb p end h) refl) e
      (λ k m. not_hit Between index c k (λ u. before k (leb-true start k (and_parts _ _ u).0) m)))

  pub none-between : ((k : ℕ) → start ≤ k → k < end → slice_index index k ≢ c) → None ≡ first_pointer Between index c
  none-between all = grind (arith, nat_tests, first-none Between index c, not_hit)

module _ (start : ℕ) (index : List ℕ) (c : ℕ) where
  -- the first pointer found from the end down to another
  pub last-from : c ≢ 0 → (p : ℕ) → start ≤ p → p < length index → slice_index index p ≡ c
      → ((k : ℕ) → p < k → k < length index → slice_index index k ≢ c) → Some p ≡ last_pointer (nat_le start) index c
  unfolding last_pointer
  last-from n p l h e after =
      sym (rw (ne_eqb c 0 n) (last-some (is_pointer_of (nat_le start) index c) (length index) p h
      (hits (nat_le start) index c p (le-leb start p l) e) (λ k m g. not_hit (nat_le start) index c k (λ u. after k m g))))

  pub none-from : ((k : ℕ) → start ≤ k → k < length index → slice_index index k ≢ c) → None ≡ last_pointer (nat_le start) index c
  none-from all = grind (arith, nat_tests, last-is-none (nat_le start) index c, not_hit)

pub below_both : (a b k : ℕ) → k < a → (nat_le 0 k && nat_lt k (min a b)) ≡ nat_lt k b
below_both a b k h = grind (arith, nat_tests)

pub from_on : (start a k : ℕ) → k < a → (nat_le start k && nat_lt k a) ≡ nat_le start k
from_on start a k h = grind (arith, nat_tests)

pub all_below : (a k : ℕ) → k < a → (nat_le 0 k && nat_lt k a) ≡ true
all_below a k h = grind (arith, nat_tests)

shift_jis : (k : ℕ) → (nat_lt k 8272 || nat_le 8836 k) ≡ is_shift_jis_pointer k
shift_jis k = grind (arith, nat_tests)

-- in Shift_JIS the pointers below 8272, and then those from 8836 on
pub shift-jis-first : (index : List ℕ) (c : ℕ) → option_or (first_pointer (λ p. nat_le 0 p && nat_lt p (min (length index) 8272)) index c)
    (first_pointer (λ p. nat_le 8836 p && nat_lt p (length index)) index c) ≡ first_pointer is_shift_jis_pointer index c
shift-jis-first index c =
    rw (first-alike _ _ index c (below_both (length index) 8272), first-alike _ _ index c (from_on 8836 (length index)))
    (sym (first-either (λ p. nat_lt p 8272) (nat_le 8836) index c (λ j k p q. let low = ltb-true j 8272 p in let high = leb-true 8836 k q in omega arith))
    ∙ first-alike (λ k. nat_lt k 8272 || nat_le 8836 k) is_shift_jis_pointer index c (λ k h. shift_jis k))

-- the pointer that Big5 uses
pub big5-taken : (index : List ℕ) (c : ℕ) → IsChosen is_big5_pointer index c (big5_pointer_of index c)
big5-taken index c = grind (arith, last-taken, first-taken)

pub if_some : (o : Option ℕ) (P : ℕ → Type 0) → ((p : ℕ) → o ≡ Some p → P p) → IfSome o P
if_some o P all = grind arith

-- the pointer used is within the index
pub taken-within : (may : ℕ → Bool) (index : List ℕ) (c : ℕ) (o : Option ℕ) → IsChosen may index c o → IfSome o (λ p. p < length index)
taken-within may index c o t = if_some o _ (λ p e. let is = t.chosen p e in within may index c p is.2 is.1)

-- ---- pointers of four bytes

module _ (ranges : List (ℕ × ℕ)) (c : ℕ) where
  of_is : (o : Option ℕ) → option_map_or (λ s. s == c) o false ≡ true → o ≡ Some c
  of_is o e = grind arith

  not_of : (p : ℕ) → (range ranges p ≡ Some c → ⊥) → is_range_pointer_of ranges c p ≡ false
  not_of p n = grind (arith, of_is)

  -- the least pointer of the scalar below n, or none
  least_is : (n p : ℕ) → p < n → range ranges p ≡ Some c → ((k : ℕ) → k < p → range ranges k ≡ Some c → ⊥)
      → first_range_pointer ranges c n ≡ Some p
  unfolding first_range_pointer
  least_is n p h e before = grind (arith, find-some (is_range_pointer_of ranges c) 0 n p, not_of)

  least_none : (n : ℕ) → ((p : ℕ) → range ranges p ≡ Some c → ⊥) → first_range_pointer ranges c n ≡ None
  unfolding first_range_pointer
  least_none n all = find-none (is_range_pointer_of ranges c) 0 n (λ k l m. not_of k (all k))

  least_taken : (n p : ℕ) → first_range_pointer ranges c n ≡ Some p → (range ranges p ≡ Some c) × (p < n)
  unfolding first_range_pointer
  least_taken n p e = grind (arith, of_is, find-first)

  -- the least pointer of the scalar
  pub range-first : c ≢ 0xE7C7 → (p : ℕ) → p < 1237576 → range ranges p ≡ Some c → ((k : ℕ) → k < p → range ranges k ≡ Some c → ⊥)
      → range_pointer_of ranges c ≡ Some p
  unfolding range_pointer_of
  range-first n p h e before = grind (arith, least_is)

  -- no pointer of the scalar
  pub range-none : c ≢ 0xE7C7 → ((p : ℕ) → range ranges p ≡ Some c → ⊥) → range_pointer_of ranges c ≡ None
  unfolding range_pointer_of
  range-none n all = rw (ne_eqb c 0xE7C7 n) (least_none 1237576 all)

  pub range-fixed : c ≡ 0xE7C7 → range_pointer_of ranges c ≡ Some 7457
  unfolding range_pointer_of
  range-fixed e = rw (eq-eqb c 0xE7C7 e) refl

  at_7457 : range ranges 7457 ≡ Some 0xE7C7
  unfolding range
  at_7457 = refl

  -- the scalar of the pointer used is c
  pub range-taken : (p : ℕ) → range_pointer_of ranges c ≡ Some p → (range ranges p ≡ Some c) × (p < 1237576)
  unfolding range_pointer_of
  range-taken p e = grind (arith, least_taken 1237576 p, range-fixed, at_7457)

pub ruleset from_end = (last-from, none-from)

pub ruleset alike = (first-alike, all_below, from_on, below_both)
