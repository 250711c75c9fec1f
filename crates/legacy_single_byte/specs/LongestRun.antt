-- The longest run of letters in a single-byte table.
use Rattle.std.specs.Prelude.{◌≡◌, ℕ, ◌+◌, ◌≤◌, List}
use Rattle.legacy_single_byte.specs.SingleByteRun.{IsSingleByteRun}

-- a run of scalars below U+2000 that starts at place 32 or later
pub record IsLetterRun (table : List ℕ) (scalar start count : ℕ) : Type 0 where
  pub from : 32 ≤ start
  pub low : scalar + count ≤ 0x2000
  pub holds : IsSingleByteRun table scalar start count

-- a run of letters that ends before the place; no run that ends there is longer
pub record LongestToThe (table : List ℕ) (scalar start count place : ℕ) : Type 0 where
  pub is : IsLetterRun table scalar start count
  pub ends : start + count ≡ place
  pub longest : (c s n : ℕ) → IsLetterRun table c s n → s + n ≡ place → n ≤ count

-- a run of letters that ends before the place or earlier; no such run is longer
pub record LongestUpTo (table : List ℕ) (scalar start count place : ℕ) : Type 0 where
  pub is : IsLetterRun table scalar start count
  pub within : start + count ≤ place
  pub longest : (c s n : ℕ) → IsLetterRun table c s n → s + n ≤ place → n ≤ count
