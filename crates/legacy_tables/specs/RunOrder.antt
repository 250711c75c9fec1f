-- For the proof of look-ups in runs alone. A reader of contracts need not read this file.
use Rattle.std.specs.Prelude.{ℕ, ◌+◌, ◌≤◌, ◌<◌, List, length, slice_index_or}
use Rattle.std.proofs.Common.{arith}
use Rattle.legacy_tables.specs.declared.tables.packed.Run.{Run}
use Rattle.legacy_tables.specs.PointerRuns.{run_at, run_end}

-- facts about each of the runs, if they are in order and within a limit
pub record AreInOrder (limit : ℕ) (runs : List Run) : Type 0 where
  pub full : (i : ℕ) (d : Run) → i < length runs → 0 < (slice_index_or runs i d).length
  pub reach : (i : ℕ) (d : Run) → i < length runs → run_end (slice_index_or runs i d) ≤ limit
  pub scalars : (i : ℕ) (d : Run) → i < length runs →
      (slice_index_or runs i d).scalar + (slice_index_or runs i d).length ≤ 0x11_0000
  pub rising : (i j : ℕ) (d : Run) → i < j → j < length runs →
      run_end (slice_index_or runs i d) ≤ (slice_index_or runs j d).pointer

-- the run at place n is the first that ends after pointer p, or all runs end at or before p
pub record IsFirstAfter (runs : List Run) (n p : ℕ) : Type 0 where
  pub within : n ≤ length runs
  pub ended : (k : ℕ) → k < n → run_end (run_at runs k) ≤ p
  pub after : n < length runs → p < run_end (run_at runs n)

-- pointer p is at or after the ends of the runs before place n, and at or before the starts of the others
pub record IsBetween (runs : List Run) (n p : ℕ) : Type 0 where
  pub ended : (k : ℕ) → k < n → k < length runs → run_end (run_at runs k) ≤ p
  pub ahead : (k : ℕ) → n ≤ k → k < length runs → p ≤ (run_at runs k).pointer

-- pointer 0 is before all runs
pub between-first : (runs : List Run) → IsBetween runs 0 0
between-first runs = record { ended = λ k h. absurd (omega arith); ahead = λ k h l. omega arith }
