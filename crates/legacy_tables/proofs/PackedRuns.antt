-- Runs in order, and the scalars that they give.
use Rattle.std.proofs.Common.{◌≡◌, ℕ, zero, suc, ◌+◌, ◌-◌, ◌≤◌, ◌<◌, List, [], ◌∷◌, length, get_or, drop, drop-cons, add-one, refl, arith, Some}
use Rattle.std.proofs.{Common.{None, true, cond}, Math.ListN.drop_of_length-le}
use Rattle.std.proofs.{lemmas.List.get_or_past, lemmas.List.FromFn.{get_or-map-range_with_len, length-map-range_with_len}}
use Rattle.std.proofs.lemmas.List.Sorted.{IsNonDecreasingBy-from_all_adjacent}
use Rattle.std.specs.{List.Sorted.IsNonDecreasingBy}
use Rattle.std.proofs.lemmas.Bool.Decides.{nat_tests}
use Rattle.legacy_tables.specs.{declared.tables.packed.Run.Run, PointerRuns.{run_at, run_end, run_scalar, runs_scalar, runs_entry, runs_end, runs_list}}
use Rattle.legacy_tables.specs.{PointerRuns.{is_run_in_order, run_fault_from, run_fault}, RunOrder.{AreInOrder, IsFirstAfter}}
use Rattle.legacy_tables.proofs.FirstPlaces.{taken, each-fine}

-- a run without pointers
abbrev pub no_run : Run
no_run = record { pointer = 0; scalar = 0; length = 0 }

-- the run at place n has pointer p
pub record HasPointer (runs : List Run) (n p : ℕ) : Type 0 where
  pub within : n < length runs
  pub from : (run_at runs n).pointer ≤ p
  pub before : p < run_end (run_at runs n)

-- ---- the order of runs, as a loop reads it

module _ (limit : ℕ) (runs : List Run) (place before : ℕ) where
  pub runs_next : place < length runs → run_fault_from place before limit (drop place runs)
      ≡ cond (is_run_in_order before limit (run_at runs place)) (run_fault_from (place + 1) (run_end (run_at runs place)) limit (drop (place + 1) runs))
      (Some place)
  unfolding run_fault_from
  runs_next h = rw (drop-cons runs place no_run h, add-one) refl

  pub runs_over : length runs ≤ place → run_fault_from place before limit (drop place runs) ≡ None
  unfolding run_fault_from
  runs_over h = rw (drop_of_length-le runs h) refl

-- ---- runs in order, one by one

-- a run that begins at or after a pointer
pub record IsAfter (before limit : ℕ) (run : Run) : Type 0 where
  pub full : 0 < run.length
  pub after : before ≤ run.pointer
  pub reach : run_end run ≤ limit
  pub scalars : run.scalar + run.length ≤ 0x11_0000

pub in_order : (before limit : ℕ) (run : Run) → is_run_in_order before limit run ≡ true → IsAfter before limit run
in_order before limit run e = grind (arith, nat_tests)

step : (limit place before : ℕ) (run : Run) (runs : List Run) → run_fault_from place before limit (run ∷ runs) ≡ None
    → IsAfter before limit run × (run_fault_from (place + 1) (run_end run) limit runs ≡ None)
unfolding run_fault_from
step limit place before run runs e =
    let t = taken _ place (run_fault_from (place + 1) (run_end run) limit runs) e in (in_order before limit run t.0, t.1)

-- runs without a fault are in order
pub are_in_order : (limit : ℕ) (runs : List Run) → run_fault limit runs ≡ None → AreInOrder limit runs
are_in_order limit runs e =
    let fine = each-fine (λ place before rest. run_fault_from place before limit rest) (λ before run. IsAfter before limit run) run_end
    (step limit) 0 0 runs e in
    record {
      full = λ i d h. (fine i d h).full;
      reach = λ i d h. (fine i d h).reach;
      scalars = λ i d h. (fine i d h).scalars;
      rising = λ i j d h l.
          let first = (fine (suc i) d (omega arith)).after in
          let rest = IsNonDecreasingBy-from_all_adjacent (λ (run : Run). run.pointer) runs (λ k d m.
          let up = (fine (suc k) d (omega arith)).after in
          rw (add-one k) (omega arith)) (suc i) j d (omega arith) l in
          omega arith;
    }

-- ---- the first pointers of runs rise

pub starts-rise : {limit : ℕ} (runs : List Run) → AreInOrder limit runs → IsNonDecreasingBy (λ (run : Run). run.pointer) runs
starts-rise runs ordered = grind (arith, ordered.rising)

-- ---- the scalar that runs give a pointer

pub outside-before : (run : Run) (p : ℕ) → p < run.pointer → run_scalar run p ≡ None
outside-before run p h = grind (arith, nat_tests)

pub outside-after : (run : Run) (p : ℕ) → run_end run ≤ p → run_scalar run p ≡ None
outside-after run p h = grind (arith, nat_tests)

pub scalar-none : (runs : List Run) (p : ℕ) → ((k : ℕ) → k < length runs → run_scalar (run_at runs k) p ≡ None) → runs_scalar runs p ≡ None
scalar-none [] p all = refl
scalar-none (run ∷ runs) p all = rw (all 0 (omega arith)) (scalar-none runs p (λ k h. all (suc k) (omega arith)))

scalar-some : (runs : List Run) (p n c : ℕ) → n < length runs → run_scalar (run_at runs n) p ≡ Some c
    → ((k : ℕ) → k < n → run_scalar (run_at runs k) p ≡ None) → runs_scalar runs p ≡ Some c
scalar-some [] p n c h is before = absurd (omega arith)
scalar-some (run ∷ runs) p zero c h is before = let here : run_scalar run p ≡ Some c = is in rw here refl
scalar-some (run ∷ runs) p (suc n) c h is before =
    rw (before 0 (omega arith)) (scalar-some runs p n c (omega arith) is (λ k l. before (suc k) (omega arith)))

module _ {limit : ℕ} (runs : List Run) (ordered : AreInOrder limit runs) (p : ℕ) where
  -- a run that has the pointer gives its scalar
  pub scalar-had : (n : ℕ) → HasPointer runs n p → runs_scalar runs p ≡ Some ((run_at runs n).scalar + (p - (run_at runs n).pointer))
  scalar-had n has = grind (arith, nat_tests, scalar-some runs p n, outside-after, ordered.rising)

  -- no run has a pointer after the last run that starts at or before it
  pub none-has : (n : ℕ) → ((k : ℕ) → n ≤ k → k < length runs → p < (run_at runs k).pointer)
      → (0 < n → run_end (run_at runs (n - 1)) ≤ p) → n ≤ length runs → runs_scalar runs p ≡ None
  none-has n ahead after within = scalar-none runs p (λ k l. grind (arith, nat_tests, outside-after, outside-before, ordered.rising k (n - 1) no_run))

-- ---- the first run that ends after a pointer

module _ {limit : ℕ} (runs : List Run) (ordered : AreInOrder limit runs) where
  -- for pointer 0 it is the first run
  pub first-after : IsFirstAfter runs 0 0
  first-after =
      record { within = omega arith; ended = λ k h. absurd (omega arith); after = λ h. let full = ordered.full 0 no_run h in omega arith }

  module _ (n p : ℕ) (first : IsFirstAfter runs n p) where
    -- a pointer before it has no scalar
    pub scalar-before : (n < length runs → p < (run_at runs n).pointer) → runs_scalar runs p ≡ None
    scalar-before before = scalar-none runs p (λ k h. grind (arith, nat_tests, outside-after, outside-before, ordered.rising n k no_run))

-- ---- the flat list of runs

pub end_most : (runs : List Run) (k : ℕ) → k < length runs → run_end (run_at runs k) ≤ runs_end runs
end_most [] k h = absurd (omega arith)
end_most (run ∷ runs) zero h = omega arith
end_most (run ∷ runs) (suc k) h = omega (arith, end_most runs k)

pub runs_end-within : (limit : ℕ) (runs : List Run) → ((k : ℕ) → k < length runs → run_end (run_at runs k) ≤ limit) → runs_end runs ≤ limit
runs_end-within limit [] all = omega arith
runs_end-within limit (run ∷ runs) all =
    let first : run_end run ≤ limit = all 0 (omega arith) in
    let rest = runs_end-within limit runs (λ k h. all (suc k) (omega arith)) in
    omega arith

pub runs_list-length : (runs : List Run) → length (runs_list runs) ≡ runs_end runs
unfolding runs_list
runs_list-length runs = length-map-range_with_len (runs_entry runs) 0 (runs_end runs)

-- no run has a pointer past the flat list
pub scalar-past_list : (runs : List Run) (p : ℕ) → length (runs_list runs) ≤ p → runs_scalar runs p ≡ None
scalar-past_list runs p h = grind (arith, scalar-none runs p, runs_list-length, end_most, outside-after)

list_entry : (runs : List Run) (p : ℕ) → p < runs_end runs → get_or (runs_list runs) p 0 ≡ runs_entry runs p
unfolding runs_list
list_entry runs p h = get_or-map-range_with_len (runs_entry runs) 0 (runs_end runs) p p 0 h (omega arith)

-- the flat list has the entry that the runs give each pointer
pub runs_list-entry : (runs : List Run) (p : ℕ) → get_or (runs_list runs) p 0 ≡ runs_entry runs p
runs_list-entry runs p = grind (arith, nat_tests, list_entry, runs_list-length, get_or_past, scalar-past_list)

-- the flat list ends with the last run, and is empty if there are no runs
pub runs_end-last : {limit : ℕ} (runs : List Run) → AreInOrder limit runs → (n : ℕ) → n + 1 ≡ length runs
    → run_end (run_at runs n) ≡ length (runs_list runs)
runs_end-last runs ordered n last =
    grind (arith, nat_tests, end_most, runs_end-within (run_end (run_at runs n)) runs, ordered.rising, runs_list-length)

pub runs_end-none : (runs : List Run) → length runs ≡ 0 → 0 ≡ length (runs_list runs)
runs_end-none runs none = grind (arith, runs_end-within 0 runs, runs_list-length)
