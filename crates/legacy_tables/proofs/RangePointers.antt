-- The pointer of four bytes that has a scalar. Ranges in order give each scalar of the Basic Multilingual Plane at most
-- one pointer.
use Rattle.std.proofs.Common.{◌≡◌, ◌≢◌, ◌∙◌, ℕ, zero, suc, ◌+◌, ◌-◌, ◌≤◌, ◌<◌, List, [], ◌∷◌, length, get_or, drop, drop-cons, refl, sym, ap, subst, arith}
use Rattle.std.proofs.{Common.{Some, None, inl, inr}, lemmas.Bool.{cases_lt}, lemmas.Bool.Decides.nat_tests, Math.ListN.drop_of_length-le}
use Rattle.std.specs.Char.{IsScalar}
use Rattle.legacy_tables.specs.{declared.tables.ranges.RangePart.RangePart, Indexes.{range, last_range_scalar}, Pointers.range_pointer_of}
use Rattle.legacy_tables.specs.{RangeParts.IsRangePart, TableChecks.{next_pointer, range_order_fault, range_value_fault}}
use Rattle.legacy_tables.proofs.Accepted.{climb, rising, rising_scalars, started_by, IsGiven, last-at, none-ahead, last-cases, last_range-narrow, range-cases}
use Rattle.legacy_tables.proofs.Pointers.{range-first, range-none, range-fixed}

-- the range at a place, and the scalar that it gives a pointer
abbrev range_at : List (ℕ × ℕ) → ℕ → ℕ × ℕ
range_at ranges place = get_or ranges place (0, 0)

abbrev scalar_of : List (ℕ × ℕ) → ℕ → ℕ → ℕ
scalar_of ranges place p = (range_at ranges place).1 + (p - (range_at ranges place).0)

-- ---- the range that gives a pointer its scalar

given : (ranges : List (ℕ × ℕ)) (p c : ℕ) → last_range_scalar ranges p ≡ Some c
    → (place : ℕ) × IsGiven ranges p place × (scalar_of ranges place p ≡ c)
given [] p c e = cc
given (r ∷ ranges) p c e = elim (last-cases r ranges p c e) [
  | inl later ↦ next (given ranges p c later)
  | inr here ↦ (0, record { within = omega arith; started = here.1; ahead = first here.0 }, here.2)
]
  where
    later_ahead : (place : ℕ) → ((k : ℕ) → place < k → k < length ranges → p < (range_at ranges k).0) → (k : ℕ) → suc place < k
        → k < suc (length ranges)
        → p < (range_at (r ∷ ranges) k).0
    later_ahead place ahead zero m h = absurd (omega arith)
    later_ahead place ahead (suc k) m h = ahead k (omega arith) (omega arith)

    next : (place : ℕ) × IsGiven ranges p place × (scalar_of ranges place p ≡ c)
        → (place : ℕ) × IsGiven (r ∷ ranges) p place × (scalar_of (r ∷ ranges) place p ≡ c)
    next g =
        let w = g.1.within in
        (suc g.0, record { within = omega arith; started = g.1.started; ahead = λ k. later_ahead g.0 g.1.ahead k }, g.2)

    first : last_range_scalar ranges p ≡ None → (k : ℕ) → 0 < k → k < suc (length ranges) → p < (range_at (r ∷ ranges) k).0
    first none zero m h = absurd (omega arith)
    first none (suc k) m h = none-ahead ranges p none k (omega arith)

-- ---- the results of `range`

module _ (ranges : List (ℕ × ℕ)) where
  -- if a pointer has a scalar of the Basic Multilingual Plane other than U+E7C7, a range gives it
  narrow_given : (p c : ℕ) → range ranges p ≡ Some c → c < 0x1_0000 → c ≢ 0xE7C7
      → (p ≢ 7457) × (p ≤ 39419) × (last_range_scalar ranges p ≡ Some c)
  narrow_given p c e h n = grind (arith, range-cases)

  gives : (p c : ℕ) → p ≢ 7457 → p ≤ 39419 → last_range_scalar ranges p ≡ Some c → range ranges p ≡ Some c
  unfolding range
  gives p c n h e = grind (arith, nat_tests)

  wide_gives : (c p : ℕ) → p ≡ 189000 + (c - 0x1_0000) → 0x1_0000 ≤ c → c < 0x11_0000 → range ranges p ≡ Some c
  unfolding range
  wide_gives c p is l h = grind (arith, nat_tests)

  wide_least : range_value_fault 0 ranges ≡ None → (p c : ℕ) → range ranges p ≡ Some c → 0x1_0000 ≤ c → p < 189000 + (c - 0x1_0000) → ⊥
  wide_least valued p c e l h = grind (arith, nat_tests, range-cases ranges p c e, last_range-narrow 0 ranges valued p c)

  -- ---- the results of the look-up

  pub wide-pointer : range_value_fault 0 ranges ≡ None → (c : ℕ) → 0x1_0000 ≤ c → c < 0x11_0000
      → Some (189000 + (c - 0x1_0000)) ≡ range_pointer_of ranges c
  wide-pointer valued c l h =
      sym (range-first ranges c (λ e. absurd (omega arith)) (189000 + (c - 0x1_0000)) (omega arith) (wide_gives c _ refl l h)
      (λ k m e. wide_least valued k c e l m))

-- ---- the pointers of the range at a place

module _ (ranges : List (ℕ × ℕ)) (ordered : range_order_fault 0 None ranges ≡ None) (place : ℕ) where
  -- a range ends by 39420, at the start of the next one
  record RangeEnds (end : ℕ) : Type 0 where
    most : end ≤ 39420
    next : place + 1 < length ranges → end ≡ (range_at ranges (place + 1)).0
    last : length ranges ≤ place + 1 → end ≡ 39420

  ends : RangeEnds (next_pointer (drop (place + 1) ranges))
  ends = elim (cases_lt (place + 1) (length ranges)) [
    | inl l ↦ rw (drop-cons ranges (place + 1) (0, 0) l)
        (record { most = let h = started_by ranges ordered (place + 1) l in omega arith; next = λ h. refl; last = λ h. absurd (omega arith) })
    | inr l ↦ rw (drop_of_length-le ranges l) (record { most = omega arith; next = λ h. absurd (omega arith); last = λ h. refl })
  ]

  -- a range starts before it ends
  pub starts-before : place < length ranges → (range_at ranges place).0 < next_pointer (drop (place + 1) ranges)
  starts-before within = grind (arith, nat_tests, ends, climb, started_by)

  is_given : place < length ranges → (p : ℕ) → (range_at ranges place).0 ≤ p → p < next_pointer (drop (place + 1) ranges) → IsGiven ranges p place
  is_given within p from before = grind (arith, nat_tests, ends, rising)

  -- the scalar that the range gives one of its pointers
  record HasRangeScalar (p : ℕ) : Type 0 where
    scalar : IsScalar (scalar_of ranges place p)
    narrow : scalar_of ranges place p < 0x1_0000
    given : p ≢ 7457 → range ranges p ≡ Some (scalar_of ranges place p)

  in_range : range_value_fault 0 ranges ≡ None → place < length ranges → (p : ℕ) → (range_at ranges place).0 ≤ p
      → p < next_pointer (drop (place + 1) ranges) → HasRangeScalar p
  in_range valued within p from before =
      let most = ends.most in
      let is = last-at ranges p place (is_given within p from before) in
      let narrow = last_range-narrow 0 ranges valued p _ (omega arith) is in
      record { scalar = narrow.0; narrow = narrow.1; given = λ n. gives ranges p _ n (omega arith) is }

  -- no later range begins at or before a scalar that the range gives one of its pointers
  begun_ahead : (c : ℕ) → (range_at ranges place).1 ≤ c
      → (range_at ranges place).0 + (c - (range_at ranges place).1) < next_pointer (drop (place + 1) ranges)
      → (k : ℕ) → place < k → k < length ranges → c < (range_at ranges k).1
  begun_ahead c reached before k l h = grind (arith, nat_tests, ends, climb, rising_scalars)

module _ (ranges : List (ℕ × ℕ)) (ordered : range_order_fault 0 None ranges ≡ None) (c : ℕ) (narrow : c < 0x1_0000) (free : c ≢ 0xE7C7) where
  -- the scalar is before those of all ranges
  pub pointer-before : ((k : ℕ) → k < length ranges → c < (range_at ranges k).1) → None ≡ range_pointer_of ranges c
  pointer-before ahead = sym (range-none ranges c free (λ p e.
      let g = given ranges p c (narrow_given ranges p c e narrow free).2 in
      let low = ahead g.0 g.1.within in
      let is = g.2 in
      absurd (omega arith)))

  -- the range of the place is the last whose scalars begin at or before the scalar
  module _ (place : ℕ) (within : place < length ranges) (reached : (range_at ranges place).1 ≤ c)
      (ahead : (k : ℕ) → place < k → k < length ranges → c < (range_at ranges k).1) where
    same_place : (q j : ℕ) → IsGiven ranges q j → scalar_of ranges j q ≡ c → j ≡ place
    same_place q j g is = grind (arith, nat_tests, climb, rising_scalars)

    -- a pointer that has the scalar is this one, and is before the next range
    record IsOnlyPointer (q : ℕ) : Type 0 where
      is : q ≡ (range_at ranges place).0 + (c - (range_at ranges place).1)
      before : q < next_pointer (drop (place + 1) ranges)
      other : q ≢ 7457

    only : (q : ℕ) → range ranges q ≡ Some c → IsOnlyPointer q
    only q e =
        let n = narrow_given ranges q c e narrow free in
        let g = given ranges q c n.2 in
        let same = same_place q g.0 g.1 g.2 in
        let h = subst (IsGiven ranges q) same g.1 in
        let is = subst (λ j. scalar_of ranges j q ≡ c) same g.2 in
        let started = h.started in
        let last = n.1 in
        record {
          is = omega arith;
          before = elim (cases_lt (place + 1) (length ranges)) [
            | inl l ↦ let next = (ends ranges ordered place).next l in let ahead = h.ahead (place + 1) (omega arith) l in omega arith
            | inr l ↦ let end = (ends ranges ordered place).last l in omega arith
          ];
          other = n.0;
        }

    module _ (p : ℕ) (is : p ≡ (range_at ranges place).0 + (c - (range_at ranges place).1)) where
      -- that pointer is past the range, or is that of U+E7C7
      pub pointer-past : next_pointer (drop (place + 1) ranges) ≤ p → None ≡ range_pointer_of ranges c
      pointer-past past = grind (arith, range-none, only)

      pub pointer-fixed : p ≡ 7457 → None ≡ range_pointer_of ranges c
      pointer-fixed fixed = grind (arith, range-none, only)

      -- or it has the scalar
      pub pointer-found : p < next_pointer (drop (place + 1) ranges) → p ≢ 7457 → Some p ≡ range_pointer_of ranges c
      pointer-found before n =
          let most = (ends ranges ordered place).most in
          let scalar : scalar_of ranges place p ≡ c = omega arith in
          let given = is_given ranges ordered place within p (omega arith) before in
          sym (range-first ranges c free p (omega arith) (gives ranges p c n (omega arith) (last-at ranges p place given ∙ ap Some scalar))
          (λ k m e. let same = (only k e).is in absurd (omega arith)))

-- ---- the pointers of a range, taken together

pub no-part : (ranges : List (ℕ × ℕ)) (part : RangePart) → part.first ≡ 0 → part.count ≡ 0 → part.scalar ≡ 0 → IsRangePart ranges part
no-part ranges part low none zero_there = record {
  reach = omega arith;
  narrow = omega arith;
  scalars = λ p l h n. absurd (omega arith);
  given = λ p l h n. absurd (omega arith);
  pointers = λ c l h n o. absurd (omega arith);
}

pub whole-range : (ranges : List (ℕ × ℕ)) → range_order_fault 0 None ranges ≡ None → range_value_fault 0 ranges ≡ None
    → (place : ℕ) → place < length ranges → (part : RangePart) → part.first ≡ (range_at ranges place).0
    → part.first + part.count ≡ next_pointer (drop (place + 1) ranges) → part.scalar ≡ (range_at ranges place).1 → IsRangePart ranges part
whole-range ranges ordered valued place within part first end scalar =
    let most = (ends ranges ordered place).most in
    let some = starts-before ranges ordered place within in
    let is = in_range ranges ordered place valued within in
    let highest = (is (part.first + part.count - 1) (omega arith) (omega arith)).narrow in
    record {
      reach = omega arith;
      narrow = omega arith;
      scalars = λ p l h n. rw (scalar, first) (is p (omega arith) (omega arith)).scalar;
      given = λ p l h n. rw (scalar, first) ((is p (omega arith) (omega arith)).given n);
      pointers = λ c l h free other.
          let ahead = begun_ahead ranges ordered place c (omega arith) (omega arith) in
          sym (pointer-found ranges ordered c (omega arith) free place within (omega arith) ahead (part.first + (c - part.scalar))
          (rw (scalar, first) refl) (omega arith) other);
    }

pub ruleset range_pointers = (range-fixed, wide-pointer)
