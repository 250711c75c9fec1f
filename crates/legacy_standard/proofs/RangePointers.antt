-- In accepted ranges the last range at or before a scalar gives the pointer that the encoder takes.
use Rattle.std.proofs.{lemmas.Bool.Decides.nat_tests, Common.{◌≡◌, ◌≢◌, ℕ, zero, suc, ◌+◌, ◌-◌, ◌≤◌, ◌<◌, Bool, true, false, cond, List, [], ◌∷◌, length}}
use Rattle.std.proofs.{Common.{get_or, Option, Some, None, nat_le, refl, arith}, lemmas.Bool.{eq-eqb, ne_eqb}}
use Rattle.std.specs.{Prelude.is_some, Option.option_or, Char.IsScalar}
use borrow.Author.Tests.{leb-true, leb-false}
use Rattle.legacy_tables.specs.{Pointers.range_pointer_of}
use Rattle.legacy_tables.proofs.{Pointers.range-fixed, RangePointers.{wide-pointer, pointer-before, pointer-past, pointer-fixed, pointer-found}}
use Rattle.legacy_standard.specs.{RangesPointer.{offset_pointer, ranges_pointer}, EncoderLaw.AreAcceptedRanges}

-- the range of a place is the last that begins at or before c, and gives it the pointer p
record IsTakenRange (ranges : List (ℕ × ℕ)) (c p place : ℕ) : Type 0 where
  within : place < length ranges
  reached : (get_or ranges place (0, 0)).1 ≤ c
  ahead : (k : ℕ) → place < k → k < length ranges → c < (get_or ranges k (0, 0)).1
  gives : p ≡ (get_or ranges place (0, 0)).0 + (c - (get_or ranges place (0, 0)).1)

-- all ranges begin after c, or one is taken for it
abbrev Chosen : List (ℕ × ℕ) → ℕ → Option ℕ → Type 0
Chosen ranges c None = (k : ℕ) → k < length ranges → c < (get_or ranges k (0, 0)).1
Chosen ranges c (Some p) = (place : ℕ) × IsTakenRange ranges c p place

chosen : (ranges : List (ℕ × ℕ)) (c : ℕ) → Chosen ranges c (offset_pointer ranges c)
chosen [] c = λ k h. absurd (omega arith)
chosen (r ∷ ranges) c = by_last (offset_pointer ranges c) (nat_le r.1 c) refl (chosen ranges c)
  where
    ahead : (n : ℕ) → ((k : ℕ) → n ≤ k → k < length ranges → c < (get_or ranges k (0, 0)).1) → (k : ℕ) → n < k → k < suc (length ranges) →
        c < (get_or (r ∷ ranges) k (0, 0)).1
    ahead n later zero m h = absurd (omega arith)
    ahead n later (suc k) m h = later k (omega arith) (omega arith)

    by_last : (o : Option ℕ) (t : Bool) → nat_le r.1 c ≡ t → Chosen ranges c o → Chosen (r ∷ ranges) c (option_or o (cond t (Some (r.0 + (c - r.1))) None))
    by_last (Some p) t s (place, l) =
        let within = l.within in
        (suc place, record { within = omega arith; reached = l.reached; ahead = ahead (suc place) (λ k m. l.ahead k (omega arith)); gives = l.gives })
    by_last None true s later = (0, record { within = omega arith; reached = leb-true r.1 c s; ahead = ahead 0 (λ k m. later k); gives = refl })
    by_last None false s later = elim [ zero ↦ λ h. leb-false r.1 c s | suc k ↦ λ h. later k (omega arith) ]

module _ (ranges : List (ℕ × ℕ)) (accepted : AreAcceptedRanges ranges) (c : ℕ) where
  narrow : c < 0x1_0000 → c ≢ 0xE7C7 → is_some (range_pointer_of ranges c) ≡ true → offset_pointer ranges c ≡ range_pointer_of ranges c
  narrow low free some = by_offset (offset_pointer ranges c) (chosen ranges c)
    where
      by_offset : (o : Option ℕ) → Chosen ranges c o → o ≡ range_pointer_of ranges c
      by_offset None before = let none = pointer-before ranges accepted.ordered c low free before in grind (arith, none)
      by_offset (Some p) (place, t) =
          let past = pointer-past ranges accepted.ordered c low free place t.within t.reached t.ahead p t.gives in
          let fixed = pointer-fixed ranges accepted.ordered c low free place t.within t.reached t.ahead p t.gives in
          let found = pointer-found ranges accepted.ordered c low free place t.within t.reached t.ahead p t.gives in
          grind (arith, past, fixed, found)

  pub ranged_pointer : IsScalar c → is_some (range_pointer_of ranges c) ≡ true → ranges_pointer ranges c ≡ range_pointer_of ranges c
  unfolding ranges_pointer
  ranged_pointer scalar some = grind (arith, nat_tests, eq-eqb, range-fixed, ne_eqb, narrow, wide-pointer)
