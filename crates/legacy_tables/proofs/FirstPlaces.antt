-- The first and the last number of a range of numbers that passes a test.
use Rattle.std.proofs.Common.{◌≡◌, ◌∙◌, ℕ, zero, suc, ◌+◌, ◌-◌, ◌≤◌, ◌<◌, List, [], ◌∷◌, length, get_or, Option, Some, None, true, false, Bool, ◌||◌, cond}
use Rattle.std.proofs.lemmas.Bool.Decides.{nat_tests}
use Rattle.std.proofs.{Common.{arith, refl, sym, ap, inl, inr, find, subst}, lemmas.Bool.{cases_lt, false_from_ne_true}, lemmas.List.Folds.find_at}
use Rattle.std.proofs.{lemmas.List.FromFn.{get_or-range_with_len, length-range_with_len}, lemmas.List.Sums.{position_or_len_is, fails_before_first}}
use Rattle.std.proofs.{lemmas.List.Sums.passes_at_first, lemmas.Option.{slice_get-get_or, slice_get_past, slice_get_within, get_or_from_slice_get}}
use Rattle.std.specs.{List.{range_with_len, slice_get, position_or_len}, Option.option_or}
use Rattle.legacy_tables.specs.Pointers.{last_below}

-- a check without a fault has passed its test
pub taken : {A : Type 0} (t : Bool) (fault : A) (a : Option A) → cond t a (Some fault) ≡ None → (t ≡ true) × (a ≡ None)
taken t fault a e = grind arith

-- ---- a check of a list that compares each item with a value made of the one before it

module _ {A S Y : Type 0} (fault : ℕ → S → List A → Option Y) (Fine : S → A → Type 0) (next : A → S)
    (step : (place : ℕ) (s : S) (x : A) (xs : List A) → fault place s (x ∷ xs) ≡ None → Fine s x × (fault (place + 1) (next x) xs ≡ None)) where
  -- the value with which the item at a place is compared
  abbrev pub carried : S → List A → ℕ → A → S
  carried s xs zero d = s
  carried s xs (suc k) d = next (get_or xs k d)

  pub each-fine : (place : ℕ) (s : S) (xs : List A) → fault place s xs ≡ None → (k : ℕ) (d : A) → k < length xs → Fine (carried s xs k d) (get_or xs k d)
  each-fine place s [] e k d h = absurd (omega arith)
  each-fine place s (x ∷ xs) e zero d h = (step place s x xs e).0
  each-fine place s (x ∷ xs) e (suc zero) d h = each-fine (place + 1) (next x) xs (step place s x xs e).1 zero d (omega arith)
  each-fine place s (x ∷ xs) e (suc (suc k)) d h = each-fine (place + 1) (next x) xs (step place s x xs e).1 (suc k) d (omega arith)

-- ---- the first item of a list that passes a test

module _ {A : Type 0} (test : A → Bool) (d : A) (xs : List A) where
  pub find-at : (n : ℕ) → n < length xs → test (get_or xs n d) ≡ true → ((k : ℕ) → k < n → test (get_or xs k d) ≡ false)
      → find test xs ≡ Some (get_or xs n d)
  find-at n h is before = grind (arith, find_at, position_or_len_is, slice_get-get_or)

  pub find-absent : ((k : ℕ) → k < length xs → test (get_or xs k d) ≡ false) → find test xs ≡ None
  find-absent all =
      find_at test xs ∙ ap (slice_get xs) (position_or_len_is test xs (length xs) d (omega arith) all (λ h. absurd (omega arith)))
      ∙ slice_get_past xs (length xs) (omega arith)

  pub find-place : (x : A) → find test xs ≡ Some x → (i : ℕ) × (i < length xs) × (get_or xs i d ≡ x) × (test x ≡ true)
  find-place x e =
      let got = sym (find_at test xs) ∙ e in
      let within = slice_get_within xs (position_or_len test xs) x got in
      let at = get_or_from_slice_get xs (position_or_len test xs) x d got in
      (position_or_len test xs, within, at, subst (λ y. test y ≡ true) at (passes_at_first test xs d within))

-- ---- the first number of a range that passes a test

module _ (test : ℕ → Bool) (a n : ℕ) where
  each : (k p : ℕ) → k < n → a + k ≡ p → get_or (range_with_len a n) k 0 ≡ p
  each k p h is = get_or-range_with_len a n k 0 h ∙ is

  pub find-some : (p : ℕ) → a ≤ p → p < a + n → test p ≡ true → ((k : ℕ) → a ≤ k → k < p → test k ≡ false)
      → find test (range_with_len a n) ≡ Some p
  find-some p low high is before =
      let at = each (p - a) p (omega arith) (omega arith) in
      find-at test 0 (range_with_len a n) (p - a) (rw length-range_with_len (omega arith)) (ap test at ∙ is)
      (λ k h. ap test (each k (a + k) (omega arith) refl) ∙ before (a + k) (omega arith) (omega arith)) ∙ ap Some at

  pub find-none : ((k : ℕ) → a ≤ k → k < a + n → test k ≡ false) → find test (range_with_len a n) ≡ None
  find-none all = find-absent test 0 (range_with_len a n) (λ k h.
      let within : k < n = rw length-range_with_len at h in
      ap test (each k (a + k) within refl) ∙ all (a + k) (omega arith) (omega arith))

  before_first : (k : ℕ) → a ≤ k → k < a + n → k - a < position_or_len test (range_with_len a n) → test k ≡ false
  before_first k low high h =
      sym (ap test (each (k - a) k (omega arith) (omega arith))) ∙ fails_before_first test (range_with_len a n) (k - a) 0 h

  pub find-none-at : find test (range_with_len a n) ≡ None → (k : ℕ) → a ≤ k → k < a + n → test k ≡ false
  find-none-at e k low high = elim (cases_lt (k - a) (position_or_len test (range_with_len a n))) [
    | inl h ↦ before_first k low high h
    | inr h ↦
        let some = slice_get-get_or (range_with_len a n) (position_or_len test (range_with_len a n)) 0 (rw length-range_with_len (omega arith)) in
        let none = sym (find_at test (range_with_len a n)) ∙ e in
        cc
  ]

  -- the number found passes, and is the first that does
  pub record FindsFirst (p : ℕ) : Type 0 where
    pub from : a ≤ p
    pub within : p < a + n
    pub passes : test p ≡ true
    pub first : (k : ℕ) → a ≤ k → k < p → test k ≡ false

  pub find-first : (p : ℕ) → find test (range_with_len a n) ≡ Some p → FindsFirst p
  find-first p e =
      let i = position_or_len test (range_with_len a n) in
      let got = sym (find_at test (range_with_len a n)) ∙ e in
      let inside = slice_get_within (range_with_len a n) i p got in
      let short : i < n = rw length-range_with_len at inside in
      let at : a + i ≡ p = sym (each i (a + i) short refl) ∙ get_or_from_slice_get (range_with_len a n) i p 0 got in
      record {
        from = omega arith;
        within = omega arith;
        passes = subst (λ q. test q ≡ true) (each i p short at) (passes_at_first test (range_with_len a n) 0 inside);
        first = λ k low high. before_first k low (omega arith) (omega arith);
      }

-- ---- the last number below a bound that passes a test

module _ (test : ℕ → Bool) where
  pub last-some : (n p : ℕ) → p < n → test p ≡ true → ((k : ℕ) → p < k → k < n → test k ≡ false) → last_below test n ≡ Some p
  unfolding last_below
  last-some zero p h is after = absurd (omega arith)
  last-some (suc n) p h is after = grind (arith, nat_tests, last-some n p)

  pub last-none : (n : ℕ) → ((k : ℕ) → k < n → test k ≡ false) → last_below test n ≡ None
  unfolding last_below
  last-none zero all = refl
  last-none (suc n) all = grind (arith, last-none n)

  -- what was found passes, and if nothing was found, nothing passes
  pub record FindsLast (n : ℕ) (o : Option ℕ) : Type 0 where
    pub passes : (p : ℕ) → o ≡ Some p → test p ≡ true
    pub none : o ≡ None → (k : ℕ) → k < n → test k ≡ false

  pub last-is : (n : ℕ) → FindsLast n (last_below test n)
  unfolding last_below
  last-is zero = record { passes = λ p e. cc; none = λ e k h. absurd (omega arith) }
  last-is (suc n) = grind (arith, nat_tests, last-is n)

-- ---- two tests

module _ (test other : ℕ → Bool) where
  pub find-same : (a n : ℕ) → ((k : ℕ) → a ≤ k → k < a + n → test k ≡ other k)
      → find test (range_with_len a n) ≡ find other (range_with_len a n)
  find-same a zero same = refl
  find-same a (suc n) same = rw (same a (omega arith) (omega arith), find-same (a + 1) n (λ k l m. same k (omega arith) (omega arith))) refl

-- if all numbers that pass the one test are before all that pass the other
pub find-either : (test other : ℕ → Bool) (a n : ℕ) → ((j k : ℕ) → test j ≡ true → other k ≡ true → j < k) →
    find (λ k. test k || other k) (range_with_len a n) ≡ option_or (find test (range_with_len a n)) (find other (range_with_len a n))
find-either test other a n apart = go (find test (range_with_len a n)) refl
  where
    go : (o : Option ℕ) → find test (range_with_len a n) ≡ o
        → find (λ k. test k || other k) (range_with_len a n) ≡ option_or o (find other (range_with_len a n))
    go None e = find-same (λ k. test k || other k) other a n (λ k l m. rw (find-none-at test a n e k l m) refl)
    go (Some p) e =
        let f = find-first test a n p e in
        find-some (λ k. test k || other k) a n p f.from f.within (rw f.passes refl)
        (λ k l m. rw (f.first k l m) (false_from_ne_true (other k) (λ is. let up = apart p k f.passes is in absurd (omega arith))))
