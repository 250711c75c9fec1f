-- A walk over runs: the scalars of the next run, and pointers without scalars before it.
use Rattle.std.proofs.lemmas.Bool.Decides.{nat_tests}
use Rattle.std.proofs.{Common.{◌≡◌, ◌∙◌, ℕ, ◌+◌, ◌≤◌, ◌<◌, List, length, get_or, ap, arith, inl, inr}, lemmas.Bool.cases_lt}
use Rattle.std.specs.Option.{option_map_or}
use Rattle.legacy_tables.specs.{declared.tables.packed.Run.Run, PointerRuns.{run_at, run_end, runs_list}, RunOrder.{IsBetween, AreInOrder}}
use Rattle.legacy_tables.proofs.PackedRuns.{no_run, outside-before, outside-after, scalar-none, scalar-had, runs_list-entry, runs_list-length, runs_end-within}
use Rattle.legacy_tables.proofs.PackedRuns.{end_most}

module _ {limit : ℕ} (runs : List Run) (ordered : AreInOrder limit runs) (n p : ℕ) (at : IsBetween runs n p) where
  -- a walk that has not come to the end of the list has a next run
  pub row-there : p < length (runs_list runs) → n < length runs
  row-there h = grind (arith, nat_tests, runs_end-within p runs, at.ended, runs_list-length)

  module _ (h : n < length runs) where
    -- no later run starts before it
    starts-first : (k : ℕ) → n ≤ k → k < length runs → (run_at runs n).pointer ≤ (run_at runs k).pointer
    starts-first k l w = grind (arith, nat_tests, ordered.rising n k no_run)

    -- pointers before its start have no scalar
    pub row-gap : (k : ℕ) → p ≤ k → k < (run_at runs n).pointer → get_or (runs_list runs) k 0 ≡ 0
    row-gap k l m = runs_list-entry runs k ∙ ap (λ o. option_map_or (λ (c : ℕ). c) o 0) (scalar-none runs k (λ i w. elim (cases_lt i n) [
      | inl b ↦ let e = at.ended i b w in outside-after (run_at runs i) k (omega arith)
      | inr a ↦ let s = starts-first i a w in outside-before (run_at runs i) k (omega arith)
    ]))

    -- its pointers have its scalars
    pub row-numbers : (k : ℕ) → k < (run_at runs n).length → get_or (runs_list runs) ((run_at runs n).pointer + k) 0 ≡ (run_at runs n).scalar + k
    row-numbers k l = grind (arith, runs_list-entry, scalar-had)

    pub row-within : run_end (run_at runs n) ≤ length (runs_list runs)
    row-within = grind (arith, end_most, runs_list-length)

    -- its end is before the next run
    pub row-next : IsBetween runs (n + 1) (run_end (run_at runs n))
    row-next = grind (arith, nat_tests, ordered.rising)

pub ruleset next_row = (row-there, row-gap, row-numbers, row-within, row-next)
