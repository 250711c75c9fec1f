-- Private-use rows that passed their check, and the search in them.
use Rattle.std.proofs.Common.{◌≡◌, ◌≢◌, inl, inr, ℕ, suc, ◌+◌, ◌≤◌, ◌<◌, List, ◌∷◌, length, get_or, add-one, refl, arith, Some, None}
use Rattle.std.proofs.lemmas.Bool.Decides.{nat_tests}
use Rattle.std.proofs.{Common.{Option, true, false, ◌==◌}, lemmas.Bool.{ne_eqb, cases_lt}}
use Rattle.std.proofs.lemmas.List.Sorted.{IsNonDecreasingBy-from_all_adjacent}
use Rattle.std.specs.{Int.is_in_range, List.Sorted.IsNonDecreasingBy}
use borrow.Author.Tests.{ltb-true}
use Rattle.legacy_tables.specs.{Indexes.gb18030_pua_of, TableChecks.follows_scalar}
use Rattle.legacy_tables.specs.TableChecks.{rows_fault}
use Rattle.legacy_tables.proofs.{FirstPlaces.{each-fine, find-at, find-absent}}

-- a row without a fault follows the row before it, and its scalar is for private use
abbrev IsFine : Option ℕ → ℕ × ℕ × ℕ → Type 0
IsFine before r = (follows_scalar before r.0 ≡ true) × (is_in_range 0xE000 0xF8FF r.0 ≡ true)

row_step : (place : ℕ) (before : Option ℕ) (r : ℕ × ℕ × ℕ) (rows : List (ℕ × ℕ × ℕ)) → rows_fault place before (r ∷ rows) ≡ None
    → IsFine before r × (rows_fault (place + 1) (Some r.0) rows ≡ None)
unfolding rows_fault
row_step place before r rows e = grind (arith, nat_tests)

pub rows-rising : (rows : List (ℕ × ℕ × ℕ)) → rows_fault 0 None rows ≡ None → IsNonDecreasingBy (λ r. r.0) rows
rows-rising rows e =
    IsNonDecreasingBy-from_all_adjacent (λ r. r.0) rows (λ k d h.
    let up = ltb-true _ _ (each-fine rows_fault IsFine (λ r. Some r.0) row_step 0 None rows e (suc k) d (omega arith)).0 in
    rw (add-one k) (omega arith))

module _ (c : ℕ) where
  -- no row has a scalar outside of private use
  pub row-outside : (rows : List (ℕ × ℕ × ℕ)) → rows_fault 0 None rows ≡ None → is_in_range 0xE000 0xF8FF c ≡ false
      → None ≡ gb18030_pua_of rows c
  row-outside rows none outside =
      rw (find-absent (λ r. r.0 == c) (0, 0, 0) rows (λ k h.
      let private = (each-fine rows_fault IsFine (λ r. Some r.0) row_step 0 None rows none k (0, 0, 0) h).1 in
      grind arith)) refl

  -- the first `count` rows have lower scalars
  module _ (rows : List (ℕ × ℕ × ℕ)) (count : ℕ) (below : (k : ℕ) → k < count → (get_or rows k (0, 0, 0)).0 < c) where
    lower : (k : ℕ) → k < count → ((get_or rows k (0, 0, 0)).0 == c) ≡ false
    lower k h = grind (arith, nat_tests)

    pub row-end : length rows ≤ count → None ≡ gb18030_pua_of rows c
    row-end h = grind (arith, find-absent (λ r. r.0 == c) (0, 0, 0) rows, lower)

    pub row-other : rows_fault 0 None rows ≡ None → (ahead : (k : ℕ) → count ≤ k → k < length rows → c ≤ (get_or rows k (0, 0, 0)).0)
        → count < length rows → (get_or rows count (0, 0, 0)).0 ≢ c → None ≡ gb18030_pua_of rows c
    row-other rises ahead h n = rw (find-absent (λ r. r.0 == c) (0, 0, 0) rows (λ k l. elim (cases_lt k count) [
      | inl m ↦ lower k m
      | inr m ↦ ne_eqb _ c (λ e.
          let here = ahead count (omega arith) h in
          let up = rows-rising rows rises count k (0, 0, 0) m l in
          n (omega arith))
    ])) refl

    pub row-found : count < length rows → (get_or rows count (0, 0, 0)).0 ≡ c
        → Some ((get_or rows count (0, 0, 0)).1, (get_or rows count (0, 0, 0)).2) ≡ gb18030_pua_of rows c
    row-found h e = grind (arith, find-at (λ r. r.0 == c) (0, 0, 0) rows count h, lower)

pub ruleset row_search = (row-outside, row-end, row-other, row-found)
