-- The longest run of letters: how one more place changes it, and that the encoder accepts it.
use Rattle.std.proofs.{Common.{◌≡◌, ◌≢◌, ℕ, ◌+◌, ◌-◌, ◌<◌, ◌≤◌, ◌==◌, List, get_or, refl, arith, None, not}, lemmas.Bool.Decides.nat_tests}
use Rattle.legacy_tables.proofs.FirstPlaces.{find-none}
use Rattle.legacy_single_byte.specs.{SingleByteRun.{IsSingleByteRun, single_byte_run_fault}, LongestRun.{LongestToThe, LongestUpTo}}
use Rattle.legacy_single_byte.proofs.EncoderRuns.{run_holds}

-- ---- runs that the encoder accepts

pub not_refused : (table : List ℕ) (scalar start count : ℕ) → 32 ≤ start → start + count ≤ 128 → IsSingleByteRun table scalar start count →
    single_byte_run_fault table scalar start count ≡ None
not_refused table scalar start count from within holds =
    let none = find-none (λ k. not (get_or table (start + k) 0 == scalar + k)) 0 count (λ k l m. grind (arith, nat_tests, holds)) in
    grind (arith, nat_tests)

-- ---- one more place

module _ {table : List ℕ} where
  module _ {scalar start count place : ℕ} (before : LongestToThe table scalar start count place) where
    -- the scalar at the place continues the run
    pub grown : get_or table place 0 ≡ scalar + count → scalar + count < 0x2000 → LongestToThe table scalar start (count + 1) (place + 1)
    grown e low = record {
      is = grind (arith, before.is.holds);
      ends = grind arith;
      longest = λ c s n run ends. grind (arith, before.longest c s (n - 1) (grind arith));
    }

    -- the scalar at the place does not continue the run
    pub begun : {value : ℕ} → get_or table place 0 ≡ value → value ≢ scalar + count → value < 0x2000 → LongestToThe table value place 1 (place + 1)
    begun e other low = record {
      is = grind arith;
      ends = refl;
      longest = λ c s n run ends.
          grind (arith, before.longest c s (n - 1) (grind arith), before.is.holds (count - 1), run.holds (n - 2), run.holds (n - 1));
    }

  -- ---- the longest run up to a place

  module _ {scalar start count place : ℕ} (best : LongestUpTo table scalar start count place) {c s n : ℕ} (run : LongestToThe table c s n (place + 1)) where
    pub kept : n ≤ count → LongestUpTo table scalar start count (place + 1)
    kept h = record { is = best.is; within = grind arith; longest = λ d t m other ends. grind (arith, best.longest d t m other, run.longest d t m other) }

    pub replaced : count < n → LongestUpTo table c s n (place + 1)
    replaced h = record { is = run.is; within = grind arith; longest = λ d t m other ends. grind (arith, best.longest d t m other, run.longest d t m other) }

  -- no run that the encoder accepts is longer than the longest one up to the end
  pub none_longer : {scalar start count place : ℕ} → 128 ≤ place → LongestUpTo table scalar start count place →
      (c s n : ℕ) → single_byte_run_fault table c s n ≡ None → c + n ≤ 0x2000 → n ≤ count
  none_longer end best c s n e low = grind (arith, nat_tests, best.longest c s n, run_holds table c s n)
