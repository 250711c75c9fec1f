-- Facts about accepted indexes for round trips. The jis0208 entries that Shift_JIS decodes to private use are empty.
-- Each private-use row has a private-use scalar, a lead and a trail.
use Rattle.std.proofs.Common.{◌≡◌, ℕ, zero, suc, ◌+◌, List, [], ◌∷◌, true, ◌==◌, Option, Some, None, slice_index, refl, arith}
use Rattle.std.proofs.Common.{eqb-true}
use Rattle.legacy_tables.specs.{declared.tables.IndexName.IndexName, Indexes.{FlatIndexes, gb18030_pua_of}, TableChecks.{AreAccepted, must_be_empty}}
use Rattle.legacy_tables.specs.TableChecks.{entry_fault, entries_fault, is_row_scalar, are_row_bytes, row_fault, rows_fault}
use Rattle.legacy_tables.proofs.Accepted.{or_none, parts}
use Rattle.legacy_base.proofs.{TwoByteTrips.PrivateUseIsEmpty, Gb18030Trip.AreGoodRows}
use Rattle.legacy_tables.specs.declared.tables.IndexName.TheVariants as names

-- ---- entries that must be empty

-- no entry of an accepted index has a fault
each_entry : (name : IndexName) (p : ℕ) (entries : List ℕ) → entries_fault name p entries ≡ None
    → (j : ℕ) → entry_fault name (p + j) (slice_index entries j) ≡ None
unfolding entries_fault
each_entry name p [] h j = refl
each_entry name p (e ∷ entries) h zero = grind (arith, or_none)
each_entry name p (e ∷ entries) h (suc j) = grind (arith, or_none, each_entry name (p + 1) entries)

-- if an entry must be empty and has no fault, it is empty
empty_entry : (name : IndexName) (p entry : ℕ) → must_be_empty name p ≡ true → entry_fault name p entry ≡ None → (entry == 0) ≡ true
empty_entry name p entry must h = let fault = rw must at h in grind arith

pub private_use-empty : (flat : FlatIndexes) → AreAccepted flat → PrivateUseIsEmpty flat.jis0208
private_use-empty flat accepted = record {
  empty = λ p within.
      let same : 0 + p ≡ p = omega arith in
      let faultless = rw same at (each_entry names.Jis0208 0 flat.jis0208 (parts flat accepted).jis0208.1 p) in
      rw (empty_entry names.Jis0208 p (slice_index flat.jis0208 p) within faultless) refl;
}

-- ---- private-use rows

good_row : (place : ℕ) (before : Option ℕ) (r : ℕ × ℕ × ℕ) → row_fault place before r ≡ None → (is_row_scalar r.0 ≡ true) × (are_row_bytes r.1 r.2 ≡ true)
good_row place before r h = grind arith

-- the facts about the row found for c
abbrev IsGoodRow : ℕ → ℕ → ℕ → Type 0
IsGoodRow c lead trail = (is_row_scalar c ≡ true) × (are_row_bytes lead trail ≡ true)

found_row : (place : ℕ) (before : Option ℕ) (rows : List (ℕ × ℕ × ℕ)) → rows_fault place before rows ≡ None
    → (c lead trail : ℕ) → gb18030_pua_of rows c ≡ Some (lead, trail) → IsGoodRow c lead trail
unfolding rows_fault
found_row place before [] faultless c lead trail h = cc
found_row place before (r ∷ rows) faultless c lead trail h =
    let both = or_none (row_fault place before r) (rows_fault (place + 1) (Some r.0) rows) faultless in
    let here = good_row place before r both.0 in
    let later = found_row (place + 1) (Some r.0) rows both.1 c lead trail in
    grind (arith, eqb-true)

pub are_good_rows : (flat : FlatIndexes) → AreAccepted flat → AreGoodRows flat.gb18030_pua
are_good_rows flat accepted = record { each = λ c lead trail h. found_row 0 None flat.gb18030_pua (parts flat accepted).private_use c lead trail h }
