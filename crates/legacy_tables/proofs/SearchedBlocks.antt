-- The entries that a search by blocks passes over.
use Rattle.std.proofs.Common.{◌≡◌, ◌≢◌, ◌∙◌, ℕ, ◌-◌, ◌≤◌, ◌<◌, List, length, take, drop, get_or, slice_index, sym, arith, true, Bool, not, eq-eqb}
use Rattle.std.proofs.{Common.◌==◌, lemmas.Bool.{not-true, true≢false}, lemmas.List.{length-take-le, length-drop, get_or-take, get_or-drop}}
use Rattle.std.proofs.lemmas.List.Folds.{list_any_at}
use Rattle.std.specs.List.{list_any}

module _ (index : List ℕ) (from end entry : ℕ) (within : end ≤ length index) where
  length_of : (k : ℕ) → from ≤ k → k < end → k - from < length (take (end - from) (drop from index))
  length_of k l h = grind (arith, length-take-le, length-drop)

  at : (k : ℕ) → from ≤ k → k < end → get_or (take (end - from) (drop from index)) (k - from) 0 ≡ get_or index k 0
  at k l h = grind (arith, get_or-take, get_or-drop)

  -- an entry that a part of an index does not contain
  pub not-contained : (found : Bool) → found ≡ list_any (λ y. y == entry) (take (end - from) (drop from index)) → not found ≡ true
      → (k : ℕ) → from ≤ k → k < end → slice_index index k ≢ entry
  not-contained found is none k l h e =
      let there = list_any_at (λ y. y == entry) (take (end - from) (drop from index)) (k - from) 0 (length_of k l h) (eq-eqb _ entry (at k l h ∙ e)) in
      true≢false (sym there ∙ sym is ∙ not-true found none)
