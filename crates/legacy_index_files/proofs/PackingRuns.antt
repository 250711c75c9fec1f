-- The runs of the first pointers of an index. At the end of the index they are accepted.
use Rattle.std.proofs.Common.{◌≡◌, ◌≢◌, ◌∙◌, ℕ, zero, suc, ◌+◌, ◌-◌, ◌≤◌, ◌<◌, List, [], ◌∷◌, ◌++◌, length, get_or, take, drop, refl, arith, Some, None}
use Rattle.std.proofs.{Common.{true, false}, lemmas.Bool.Decides.nat_tests, lemmas.List.{get_or_past, get_or_append_left, get_or_push}}
use Rattle.std.proofs.lemmas.List.{length_push, length-take, get_or-take}
use Rattle.std.specs.Option.{option_or}
use Rattle.legacy_tables.specs.{declared.tables.packed.PackedPart.PackedPart, declared.tables.packed.Run.Run, Indexes.idx, PointerRuns.{run_at, run_end}}
use Rattle.legacy_tables.specs.{PointerRuns.{run_scalar, runs_scalar, is_run_in_order, run_fault_from}, Packed.{differs_at, run_difference, runs_fault}}
use Rattle.legacy_tables.proofs.{FirstPlaces.find-none, PackedRuns.{no_run, outside-after, runs_next, runs_over}}
use Rattle.legacy_index_files.specs.Packing.{AreLongest, GivesIndex}

scalar-push : (runs : List Run) (run : Run) (p : ℕ) → runs_scalar (runs ++ run ∷ []) p ≡ option_or (runs_scalar runs p) (run_scalar run p)
scalar-push [] run p = grind arith
scalar-push (r ∷ runs) run p = grind (arith, scalar-push runs run p)

-- ---- the longest runs of the pointers below p

-- The runs end at p or earlier. If the last one ends at p, before `end`, the pointer p does not continue it.
pub record AreLongestBelow (end p : ℕ) (index : List ℕ) (runs : List Run) : Type 0 where
  pub longest : AreLongest runs
  pub reach : (i : ℕ) (d : Run) → i < length runs → run_end (get_or runs i d) ≤ p
  pub stops : (i : ℕ) (d : Run) → i + 1 ≡ length runs → run_end (get_or runs i d) ≡ p → p < end →
      (get_or runs i d).scalar + (get_or runs i d).length ≢ get_or index p 0

pub none-longest : (end : ℕ) (index : List ℕ) → AreLongestBelow end 0 index []
none-longest end index = grind arith

module _ (end p : ℕ) (index : List ℕ) (runs : List Run) (so_far : AreLongestBelow end p index runs) where
  module _ (run : Run) (starts : run.pointer ≡ p) (scalar : run.scalar ≡ get_or index p 0) (within : p + run.length ≤ end) (some : 0 < run.length)
      (longest : p + run.length < end → get_or index (p + run.length) 0 ≢ get_or index p 0 + run.length) where
    pub longest-added : AreLongestBelow end (p + run.length) index (runs ++ run ∷ [])
    longest-added = grind (
      arith,
      length_push,
      get_or_append_left,
      get_or_push,
      so_far.longest.some,
      so_far.longest.rising,
      so_far.longest.ends,
      so_far.stops,
      so_far.reach,
    )

-- ---- the entries of runs

pub record AreRunsBelow (p : ℕ) (index : List ℕ) (runs : List Run) : Type 0 where
  pub gives : (k : ℕ) → k < p → runs_scalar runs k ≡ idx index k
  pub nothing_more : (k : ℕ) → p ≤ k → runs_scalar runs k ≡ None

pub no-runs : (index : List ℕ) → AreRunsBelow 0 index []
no-runs index = grind arith

module _ (p : ℕ) (index : List ℕ) (runs : List Run) (so_far : AreRunsBelow p index runs) where
  module _ (run : Run) (starts : run.pointer ≡ p) (scalar : run.scalar ≡ get_or index p 0) (mapped : get_or index p 0 ≢ 0)
      (row : (k : ℕ) → k < run.length → get_or index (p + k) 0 ≡ get_or index p 0 + k) where
    entry_some : (k : ℕ) → p ≤ k → k < p + run.length → idx index k ≡ Some (run.scalar + (k - run.pointer))
    entry_some k h l =
        grind (arith, nat_tests, row (k - p))

    pub run-added : AreRunsBelow (p + run.length) index (runs ++ run ∷ [])
    run-added = record {
      gives = λ k h. rw (scalar-push runs run k) (grind (arith, nat_tests, so_far.gives k, so_far.nothing_more k, entry_some k));
      nothing_more = λ k h. rw (scalar-push runs run k) (grind (arith, nat_tests, so_far.nothing_more k));
    }

  -- at the end of the first entries of the index
  pub runs-made : (limit : ℕ) → p ≤ limit → (p < limit → length index ≤ p) → (k : ℕ) → runs_scalar runs k ≡ idx (take limit index) k
  runs-made limit within all k =
      grind (
        arith,
        nat_tests,
        so_far.gives k,
        so_far.nothing_more k,
        get_or-take limit index k 0,
        get_or_past (take limit index) k 0,
        get_or_past index k 0,
        length-take limit index,
      )

-- ---- the runs of an index of scalars are accepted

-- each entry of the index is less than the limit
pub record HasEntriesBelow (limit : ℕ) (index : List ℕ) : Type 0 where
  pub at : (p : ℕ) → get_or index p 0 < limit

-- the first run that has a pointer gives its scalar
scalar-first : (runs : List Run) (n p : ℕ) → n < length runs → (run_at runs n).pointer ≤ p → p < run_end (run_at runs n)
    → ((k : ℕ) → k < n → run_end (run_at runs k) ≤ p) → runs_scalar runs p ≡ Some ((run_at runs n).scalar + (p - (run_at runs n).pointer))
scalar-first [] n p h low high before = absurd (omega arith)
scalar-first (run ∷ runs) zero p h low high before = grind (arith, nat_tests)
scalar-first (run ∷ runs) (suc n) p h low high before =
    rw (outside-after run p (before 0 (omega arith)))
    (scalar-first runs n p (omega arith) low high (λ k l. before (suc k) (omega arith)))

module _ (limit scalars : ℕ) (index : List ℕ) (runs : List Run) (made : GivesIndex limit index runs) (below : HasEntriesBelow scalars index)
    (few : scalars ≤ 0x11_0000) where
  -- the last scalar of a run is an entry of the index
  in_order : (n before : ℕ) → n < length runs → before ≤ (run_at runs n).pointer → is_run_in_order before limit (run_at runs n) ≡ true
  in_order n before h after =
      let some = made.longest.some n no_run h in
      let p = (run_at runs n).pointer + ((run_at runs n).length - 1) in
      let last = scalar-first runs n p h (omega arith) (omega arith) (λ k l. let r = made.longest.rising k n no_run l h in omega arith) in
      grind (arith, nat_tests, last, made.gives p, get_or-take limit index p 0, get_or_past (take limit index) p 0, length-take limit index, below.at p)

  ordered_from : (n place before : ℕ) → place + n ≡ length runs → (place < length runs → before ≤ (run_at runs place).pointer)
      → run_fault_from place before limit (drop place runs) ≡ None
  ordered_from zero place before e after = runs_over limit runs place before (omega arith)
  ordered_from (suc n) place before e after =
      runs_next limit runs place before (omega arith)
      ∙ rw (in_order place before (omega arith) (after (omega arith)))
      (ordered_from n (place + 1) (run_end (run_at runs place)) (omega arith) (λ h. made.longest.rising place (place + 1) no_run (omega arith) h))

  no_difference : (k : ℕ) → k < limit → differs_at runs index k ≡ false
  no_difference k h = grind (arith, nat_tests, made.gives k, get_or-take limit index k 0)

  pub runs-accepted : (part : PackedPart) → runs_fault part limit runs index ≡ None
  unfolding run_difference
  runs-accepted part =
      rw (ordered_from (length runs) 0 0 (omega arith) (λ h. omega arith), find-none (differs_at runs index) 0 limit (λ k l h. no_difference k (omega arith)))
      refl
