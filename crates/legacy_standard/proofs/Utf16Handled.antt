-- The UTF-16 decoders' handlers give the events of their grammars.
use Rattle.std.proofs.Common.{◌≡◌, ℕ, ◌+◌, ◌*◌, Bool, List, [], ◌∷◌, ◌++◌, cond, Some, None, inl, inr, refl, true, false, arith}
use Rattle.std.proofs.{lemmas.Bool.{cases_Bool, cond_both, and_left}, lemmas.List.Elements.{All-tail}}
use Rattle.std.specs.{Char.Utf16.{is_high_surrogate, is_low_surrogate, surrogate_pair_char}}
use Rattle.legacy_base.specs.{declared.results.DecodeEvent.DecodeEvent, declared.results.DecodeEvent.TheVariants.{Scalar, Bad}, Utf16.{unit_of, units_of}}
use Rattle.legacy_base.specs.{Utf16.{has_odd_byte, single_unit_events, units_events, utf16_events}, Grammar.{utf16, events_of}}
use Rattle.legacy_tables.specs.Unicode.{IsByte, AreBytes}
use Rattle.legacy_standard.specs.{Queue.{Item, Handled}, Utf16.{Utf16, utf16_state, utf16_initial, unit_bytes, utf16_handler}}
use Rattle.legacy_standard.specs.Processing.{all_read}
use Rattle.legacy_standard.proofs.Turns.{Proceeds, steady, IsDecodedBy, at_end, goes_on, gives, error_at, error_at_end}

-- the bytes of a code unit are those that it was made from
bytes-back : (is_utf16be : Bool) (a b : ℕ) → IsByte a → IsByte b → unit_bytes is_utf16be (unit_of is_utf16be a b) ≡ a ∷ b ∷ []
bytes-back is_utf16be a b p q = grind arith

module _ (is_utf16be : Bool) where
  abbrev handler : Utf16 → Item → Handled Utf16
  handler = utf16_handler is_utf16be

  abbrev unit : ℕ → ℕ → ℕ
  unit a b = unit_of is_utf16be a b

  -- the events of the bytes that begin with the code unit with the index i
  abbrev events : ℕ → List ℕ → List DecodeEvent
  events i bytes = units_events i (units_of is_utf16be bytes) (has_odd_byte bytes)

  abbrev Gives : ℕ → List ℕ → Type 0
  Gives i bytes = Proceeds handler all_read utf16_initial (2 * i) 0 bytes (events i bytes)

  -- a code unit that is no high surrogate is not paired with the next one
  single-events : (i u : ℕ) (units : List ℕ) (odd : Bool) → is_high_surrogate u ≡ false →
      units_events i (u ∷ units) odd ≡ single_unit_events i u ++ units_events (i + 1) units odd
  unfolding units_events
  single-events i u [] odd h = rw h refl
  single-events i u (v ∷ units) odd h = rw (and_left (is_high_surrogate u) (is_low_surrogate v) h, units_events)

  -- a high surrogate is paired with the next code unit if that is a low one
  high-events : (i u v : ℕ) (units : List ℕ) (odd : Bool) → is_high_surrogate u ≡ true → units_events i (u ∷ v ∷ units) odd
      ≡ cond (is_low_surrogate v) (Scalar (surrogate_pair_char u v) ∷ units_events (i + 2) units odd) (Bad (2 * i) 2 ∷ units_events (i + 1) (v ∷ units) odd)
  unfolding units_events
  high-events i u v units odd h = grind arith

  single : (i a b : ℕ) (rest : List ℕ) → is_high_surrogate (unit a b) ≡ false → Gives (i + 1) rest → Gives i (a ∷ b ∷ rest)
  unfolding units_of has_odd_byte utf16_handler
  single i a b rest h after =
      let next : 2 * i + 2 ≡ 2 * (i + 1) = omega arith in
      rw (single-events i (unit a b) (units_of is_utf16be rest) (has_odd_byte rest) h, h)
      (elim (cases_Bool (is_low_surrogate (unit a b))) [
        | inl l ↦ rw l (goes_on refl (error_at {t = utf16_initial} [] (rw (h, l) refl) (rw next after)))
        | inr l ↦ rw l (goes_on refl (gives {t = utf16_initial} (unit a b ∷ []) (rw (h, l) refl) (rw next after)))
      ])

  -- the handler's steps for a high surrogate
  over_high : {place a b : ℕ} {rest : List ℕ} {es : List DecodeEvent} → is_high_surrogate (unit a b) ≡ true →
      Proceeds handler all_read (utf16_state None (Some (unit a b))) place 2 rest es → Proceeds handler all_read utf16_initial place 0 (a ∷ b ∷ rest) es
  unfolding utf16_handler
  over_high h after = goes_on refl (goes_on (rw h refl) after)

  high_more : (i a b c d : ℕ) (rest : List ℕ) → IsByte c → IsByte d → is_high_surrogate (unit a b) ≡ true → Gives (i + 2) rest →
      Gives (i + 1) (c ∷ d ∷ rest) → Gives i (a ∷ b ∷ c ∷ d ∷ rest)
  unfolding units_of has_odd_byte utf16_handler
  high_more i a b c d rest p q h after other =
      let next : 2 * i + 2 ≡ 2 * (i + 1) = omega arith in
      let over_next : 2 * i + 4 ≡ 2 * (i + 2) = omega arith in
      rw (high-events i (unit a b) (unit c d) (units_of is_utf16be rest) (has_odd_byte rest) h)
      (over_high h (goes_on refl (elim (cases_Bool (is_low_surrogate (unit c d))) [
        | inl l ↦ rw l (gives {t = utf16_initial} (surrogate_pair_char (unit a b) (unit c d) ∷ []) (rw l refl) (rw over_next after))
        | inr l ↦ rw l (error_at {t = utf16_initial} (c ∷ d ∷ []) (rw (l, bytes-back is_utf16be c d p q) refl) (rw next other))
      ])))

  -- by the first code unit's kind
  by_high : (i a b : ℕ) (rest : List ℕ) → (is_high_surrogate (unit a b) ≡ true → Gives i (a ∷ b ∷ rest)) → Gives (i + 1) rest → Gives i (a ∷ b ∷ rest)
  by_high i a b rest high after =
      cond_both (is_high_surrogate (unit a b)) true false (λ s. Gives i (a ∷ b ∷ rest)) high (λ f. single i a b rest f after)

  all_bytes : (i : ℕ) (bytes : List ℕ) → AreBytes bytes → Gives i bytes
  unfolding units_of has_odd_byte units_events utf16_handler
  all_bytes i [] all = at_end refl
  all_bytes i (a ∷ []) all = goes_on refl (error_at_end [] refl (at_end refl))
  all_bytes i (a ∷ b ∷ []) all = by_high i a b [] (λ h. rw h (over_high h (error_at_end [] refl (at_end refl)))) (at_end refl)
  all_bytes i (a ∷ b ∷ c ∷ []) all =
      by_high i a b (c ∷ []) (λ h. rw h (over_high h (goes_on refl (error_at_end [] refl (at_end refl))))) (goes_on refl (error_at_end [] refl (at_end refl)))
  all_bytes i (a ∷ b ∷ c ∷ d ∷ rest) all =
      let after_b : AreBytes (c ∷ d ∷ rest) = All-tail IsByte b (c ∷ d ∷ rest) (All-tail IsByte a (b ∷ c ∷ d ∷ rest) all) in
      let after_d : AreBytes rest = All-tail IsByte d rest (All-tail IsByte c (d ∷ rest) after_b) in
      let other = all_bytes (i + 1) (c ∷ d ∷ rest) after_b in
      let after = all_bytes (i + 2) rest after_d in
      by_high i a b (c ∷ d ∷ rest) (λ t. high_more i a b c d rest (all 2 0 (omega arith)) (all 3 0 (omega arith)) t after other) other

  pub utf16_handled : IsDecodedBy (utf16 is_utf16be) (utf16_handler is_utf16be) utf16_initial
  unfolding events_of utf16_events
  utf16_handled bytes all = steady (all_bytes 0 bytes all)
