-- The facts that the check of an encoder's run proves, and the codes that follow from a table's places.
use Rattle.std.proofs.Common.{◌≡◌, ◌≢◌, ◌↔◌, sym, IfSome, ℕ, ◌+◌, ◌-◌, ◌≤◌, ◌<◌, ◌==◌, List, ◌∷◌, [], get_or, refl, arith, Some, None}
use Rattle.std.proofs.{Common.{Option, option_map, not, position}, lemmas.Bool.lt-ltb, lemmas.Bool.Decides.nat_tests}
use Rattle.std.specs.List.{position_or_len}
use Rattle.legacy_text.specs.UnitCodes.{IsNoSurrogate}
use Rattle.legacy_tables.specs.{Indexes.{idx}, AcceptedTables.AcceptedTable}
use Rattle.legacy_base.specs.SingleByte.{single_byte_code}
use Rattle.legacy_tables.proofs.{Accepted.entry_scalar-is, PackedAccepted.entry-narrow, AcceptedTable.{position-idx, within, table-scalars, table-below}}
use Rattle.{std.proofs.lemmas.Grind.common_steps, legacy_tables.proofs.FirstPlaces.{find-first, find-none, find-none-at, find-some}}
use Rattle.legacy_single_byte.specs.SingleByteRun.{IsSingleByteRun, first_mismatch}

pub run_holds : (table : List ℕ) (scalar start count : ℕ) → first_mismatch table scalar start count ≡ None → IsSingleByteRun table scalar start count
run_holds table scalar start count e k h =
    let same = find-none-at (λ k. not (get_or table (start + k) 0 == scalar + k)) 0 count e k (omega arith) (omega arith) in grind (arith, nat_tests)

module _ (table : List ℕ) (scalar start count : ℕ) where
  pub mismatch_at : (k : ℕ) → k < count → get_or table (start + k) 0 ≢ scalar + k → ((j : ℕ) → j < k → get_or table (start + j) 0 ≡ scalar + j)
      → Some k ≡ first_mismatch table scalar start count
  mismatch_at k below other same =
      sym (find-some _ 0 count k (omega arith) (omega arith) (grind (arith, nat_tests)) (λ j low h. let e = same j h in grind (arith, nat_tests)))

  pub no_mismatch : ((j : ℕ) → j < count → get_or table (start + j) 0 ≡ scalar + j) → None ≡ first_mismatch table scalar start count
  no_mismatch same = sym (find-none _ 0 count (λ j low h. let e = same j (omega arith) in grind (arith, nat_tests)))

pub run_below : (table : AcceptedTable) (scalar start count : ℕ) → scalar < 0x1_0000 → first_mismatch table.entries scalar start count ≡ None
    → scalar + count ≤ 0x1_0000
run_below table scalar start count low none =
    let last = entry-narrow table.entries (table-below table.entries table.accepted) (start + (count - 1)) in
    grind (arith, last, run_holds table.entries scalar start count none (count - 1))

-- ---- places

module _ (table : AcceptedTable) (c : ℕ) (past : 128 ≤ c) where
  same_place : (place : ℕ) → (position (λ entry. entry == c) table.entries ≡ Some place) ↔ (idx table.entries place ≡ Some c)
  same_place = position-idx table.entries table.accepted c (λ z. omega arith)

  -- the place that the table has for a scalar is below 128, and gives its code
  pub code_of_place : (place : Option ℕ) → ((p : ℕ) → (place ≡ Some p) ↔ (idx table.entries p ≡ Some c))
      → IfSome place (λ p. p < 128) × (single_byte_code table.entries c ≡ option_map (λ p. (0x80 + p) ∷ []) place)
  unfolding single_byte_code
  code_of_place None says = let q = position_or_len (λ entry. entry == c) table.entries in grind (arith, nat_tests, same_place q, says q)
  code_of_place (Some p) says =
      grind (arith, nat_tests, same_place p, says p, entry_scalar-is (get_or table.entries p 0) c, within table.entries table.accepted p c, table.entry_count)

  -- the code of the scalar at a place
  pub code_at : (p : ℕ) → get_or table.entries p 0 ≡ c → single_byte_code table.entries c ≡ Some ((0x80 + p) ∷ [])
  unfolding single_byte_code
  code_at p e = grind (arith, nat_tests, position-idx table.entries table.accepted c)

  -- the scalar at a place is not a surrogate
  pub malformed_at : (p : ℕ) → get_or table.entries p 0 ≡ c → IsNoSurrogate c
  malformed_at p e high =
      grind (arith, nat_tests, within table.entries table.accepted p c, table-scalars table.entries table.accepted p)

-- ASCII is itself
pub code_ascii : (table : List ℕ) (c : ℕ) → c < 128 → single_byte_code table c ≡ Some (c ∷ [])
unfolding single_byte_code
code_ascii table c h = rw (lt-ltb c 128 h) refl

-- the lemmas for the check of a run
pub ruleset run_steps = (common_steps, find-first, run_holds, run_below)
