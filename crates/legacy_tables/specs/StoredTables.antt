-- For the prover alone: how accepted tables are stored as lists. A reader of contracts need not read this file.
use Rattle.std.specs.Prelude.{◌≡◌, ℕ, List, length, Option, Some, None, is_none, true, refl}
use Rattle.std.specs.Coded.{Coded, code_by, coded×, coded_ℕ, coded_list, ×_prop}
use Rattle.std.proofs.Common.{sym, ◌∙◌, ap}
use Rattle.std.proofs.lemmas.Bool.{true≢false}
use Rattle.std.proofs.Math.Path.{path_j, sym_refl}
use Rattle.std.proofs.Math.Bool.{Bool-set}
use Rattle.std.proofs.Math.Nat.{ℕ_set}
use base.Stored.{coded_sub}
use Rattle.legacy_tables.specs.Indexes.{FlatIndexes}
use Rattle.legacy_tables.specs.TableChecks.{AreAccepted, IsAcceptedTable, table_fault, single_byte_fault}
use Rattle.legacy_tables.specs.AcceptedTables.{flat_lists, AcceptedIndexes, AcceptedTable}

-- ---- two values with the same lists are equal

module _ {A : Type 0} where
  -- a test for None
  abbrev by_test : (o : Option A) → true ≡ is_none o → None ≡ o
  by_test None e = refl
  by_test (Some x) e = absurd (true≢false e)

  -- the test keeps its proofs apart
  by_test-ap : (o : Option A) (p : None ≡ o) → by_test o (ap is_none p) ≡ p
  by_test-ap o p = path_j (λ (z : Option A) (q : None ≡ z). by_test z (ap is_none q) ≡ q) refl p

  -- an equation turned round twice
  sym-sym : {x y : Option A} (p : x ≡ y) → sym (sym p) ≡ p
  sym-sym {x} p = path_j (λ (z : Option A) (q : x ≡ z). sym (sym q) ≡ q) (ap sym sym_refl ∙ sym_refl) p

  -- an equation from None has one proof
  from_none-prop : (o : Option A) → IsProp (None ≡ o)
  from_none-prop o p q = sym (by_test-ap o p) ∙ ap (by_test o) (Bool-set true (is_none o) (ap is_none p) (ap is_none q)) ∙ by_test-ap o q

  -- the absence of a fault has one proof
  pub none-prop : (o : Option A) → IsProp (o ≡ None)
  none-prop o p q = sym (sym-sym p) ∙ ap sym (from_none-prop o (sym p) (sym q)) ∙ sym-sym q

-- a list of numbers is stored unchanged
abbrev numbers : Coded (List ℕ)
numbers = coded_list coded_ℕ

-- lists of pairs of numbers
abbrev pairs : Coded (List (ℕ × ℕ))
pairs = coded_list (coded× coded_ℕ coded_ℕ)

-- lists of rows of three numbers, stored as nested pairs
abbrev rows : Coded (List (ℕ × ℕ × ℕ))
rows =
    coded_list (code_by (ℕ × (ℕ × ℕ)) (coded× coded_ℕ (coded× coded_ℕ coded_ℕ)) (λ r. (r.0, (r.1, r.2))) (λ t. (t.0, t.1.0, t.1.1)) (λ _. refl))

-- indexes are stored as their eight lists
abbrev coded_flat : Coded FlatIndexes
coded_flat =
    code_by (List ℕ × (List ℕ × (List ℕ × (List ℕ × (List ℕ × (List ℕ × (List (ℕ × ℕ) × List (ℕ × ℕ × ℕ))))))))
    (coded× numbers (coded× numbers (coded× numbers (coded× numbers (coded× numbers (coded× numbers (coded× pairs rows)))))))
    (λ f. (f.big5, (f.euc_kr, (f.jis0208, (f.jis0212, (f.gb18030, (f.katakana, (f.ranges, f.gb18030_pua))))))))
    (λ t. flat_lists t.0 t.1.0 t.1.1.0 t.1.1.1.0 t.1.1.1.1.0 t.1.1.1.1.1.0 t.1.1.1.1.1.1.0 t.1.1.1.1.1.1.1)
    (λ _. refl)

-- accepted indexes are stored as their lists
abbrev pub coded_indexes : Coded AcceptedIndexes
coded_indexes =
    code_by ((flat : FlatIndexes) × AreAccepted flat)
    (coded_sub coded_flat AreAccepted (λ flat. none-prop (table_fault flat)))
    (λ x. (x.flat, x.accepted))
    (λ t. record { flat = t.0; accepted = t.1 })
    (λ _. refl)

-- the facts about the entries of an accepted table
abbrev Accepted : List ℕ → Type 0
Accepted entries = (length entries ≡ 128) × IsAcceptedTable entries

-- an accepted table is stored as its entries
abbrev pub coded_table : Coded AcceptedTable
coded_table =
    code_by ((entries : List ℕ) × Accepted entries)
    (coded_sub numbers Accepted (λ entries. ×_prop (ℕ_set (length entries) 128) (none-prop (single_byte_fault entries))))
    (λ x. (x.entries, (x.entry_count, x.accepted)))
    (λ t. record { entries = t.0; entry_count = t.1.0; accepted = t.1.1 })
    (λ _. refl)
