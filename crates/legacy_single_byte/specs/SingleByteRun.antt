-- Runs of single-byte tables: `count` entries, from the place `start` on, that are consecutive scalars from `scalar`
-- on.
use Rattle.std.specs.Prelude.{◌≡◌, ℕ, ◌+◌, ◌<◌, ◌≤◌, List, Option, Some, None, ◌==◌, nat_lt, not, find, if◌then◌else◌, option_map, slice_index}
use Rattle.std.specs.List.{range_with_len}
use Rattle.legacy_single_byte.specs.declared.single_byte.run.SingleByteRunError.{SingleByteRunError, TheVariants.{RunStart, RunPastEnd, RunMismatch}}

-- the table contains the run
abbrev pub IsSingleByteRun : List ℕ → ℕ → ℕ → ℕ → Type 0
IsSingleByteRun table scalar start count = (k : ℕ) → k < count → slice_index table (start + k) ≡ scalar + k

-- the offset in the run at which the table first differs from it
abbrev pub first_mismatch : List ℕ → ℕ → ℕ → ℕ → Option ℕ
first_mismatch table scalar start count =
    find (λ k. not (slice_index table (start + k) == scalar + k)) (range_with_len 0 count)

-- the first fault of a run: it starts before place 32, it ends past 128, or the table differs from it at this place
abbrev pub single_byte_run_fault : List ℕ → ℕ → ℕ → ℕ → Option SingleByteRunError
single_byte_run_fault table scalar start count =
    if nat_lt start 32 then Some RunStart
    else if nat_lt 128 (start + count) then Some RunPastEnd
    else option_map (λ k. RunMismatch (start + k)) (first_mismatch table scalar start count)

-- The encoder accepts the run, its scalars are below U+2000, and no such run is longer.
pub record IsLongestRun (table : List ℕ) (scalar start count : ℕ) : Type 0 where
  pub accepted : single_byte_run_fault table scalar start count ≡ None
  pub letters : scalar + count ≤ 0x2000
  pub longest : (other_scalar other_start other_count : ℕ) →
      single_byte_run_fault table other_scalar other_start other_count ≡ None →
      other_scalar + other_count ≤ 0x2000 → other_count ≤ count
