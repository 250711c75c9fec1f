-- The machine of the UTF-16 decoders agrees with its grammar, and their moves are those of the machine.
use Rattle.std.proofs.{Common.{◌≡◌, ◌≢◌, ℕ, ◌+◌, ◌-◌, ◌*◌, ◌/◌, ◌<◌, ◌≤◌, List, [], ◌∷◌, length, Bool, true, false, refl, arith}, lemmas.Bool.false≢true}
use Rattle.std.{proofs.lemmas.{Bool.Decides.nat_tests, List.Elements.{All-nil, All-cons}}, specs.Char.Utf16.{is_high_surrogate, is_low_surrogate}}
use Rattle.{legacy_tables.specs.Unicode.{IsByte, AreBytes}, legacy_base.specs.{Fronts.{front_length, cut}, Grammar.{utf16, events_of}, Utf16.unit_of}}
use Rattle.legacy_base.{specs.{Utf16.utf16_events, States.{utf16_may_hold, rests, state_of}, Lengths.{LengthQuery, query_form}}, proofs.Cuts.cut-nil}
use Rattle.{legacy_text.specs.EncodingForm.{unit_count, bmp_need, wide_need}, legacy_miscellaneous.specs.{Utf16Fronts.utf16_front, Utf16Machine.utf16_step}}
use Rattle.legacy_miscellaneous.specs.{Utf16Machine.utf16_machine, declared.utf16.held_bytes.Held.{Held, TheVariants.{Nothing, Pending}}}
use Rattle.legacy_miscellaneous.{specs.declared.utf16.held_bytes.UnitScalar.UnitScalar, proofs.Utf16Cut.utf16_cut}
use Rattle.legacy_miscellaneous.specs.Utf16Decoder.{first_byte, second_byte, held_bytes}
use Rattle.legacy_decoder_engine.specs.{Steps.{WriteMeets, end_events, Meets, step_held}, StepUnits.{step_units, step_left, IsWidth}, Shown.KeepsNeeds}
use Rattle.legacy_decoder_engine.specs.{Shown.IsShown, declared.moves.Fed.Fed, Moves.{IsCovered, Feeds, Releases, Reports}, Feeding.Took}
use Rattle.legacy_decoder_engine.proofs.{FrontMoves.{Fits, fits_meets, write_meets, end_meets, report_meets}, CallUnderWay.same_needs, Widths.width_of}
use Rattle.legacy_decoder_engine.proofs.Feeding as moves

high_not_low : (u : ℕ) → is_high_surrogate u ≡ true → is_low_surrogate u ≡ false
high_not_low u h = grind (arith, nat_tests)

pub unit_below : (be : Bool) (a b : ℕ) → a < 0x100 → b < 0x100 → unit_of be a b < 0x1_0000
unit_below be a b h k = grind arith

-- the bytes of the unit of two bytes are these
pub unit_bytes : (be : Bool) (a b : ℕ) → a < 0x100 → b < 0x100 → first_byte be (unit_of be a b) ∷ second_byte be (unit_of be a b) ∷ [] ≡ a ∷ b ∷ []
unit_bytes true a b h k = grind arith
unit_bytes false a b h k = grind arith

-- ---- the grammar

module _ (be : Bool) where
  ev_is : (bytes : List ℕ) → events_of (utf16 be) bytes ≡ cut (utf16_front be) 0 0 bytes
  unfolding events_of utf16_events
  ev_is bytes = utf16_cut be 0 bytes

  fits : (held : List ℕ) (b : ℕ) → utf16_may_hold be held ≡ true → rests (utf16 be) held ≡ true →
      Fits (utf16_front be) (utf16_may_hold be) held b (utf16_step be held b)
  unfolding utf16_front
  fits held b h r = grind (arith, high_not_low, false≢true)

  written : (a b : ℕ) → is_high_surrogate (unit_of be a b) ≡ false → is_low_surrogate (unit_of be a b) ≡ false
      → WriteMeets (utf16 be) (a ∷ b ∷ []) 2 (unit_of be a b)
  unfolding utf16_front
  written a b high low =
      write_meets (utf16 be) (utf16_front be) ev_is (a ∷ b ∷ []) 2 (unit_of be a b) (λ more. grind arith) (omega arith) (omega arith) refl

  all_end : (held : List ℕ) → utf16_may_hold be held ≡ true → rests (utf16 be) held ≡ true → events_of (utf16 be) held ≡ end_events held
  unfolding utf16_front
  all_end held h r = let ends = end_meets (utf16 be) (utf16_front be) ev_is in grind (arith, ends, ev_is, cut-nil (utf16_front be), false≢true)

  -- each front has at least one byte
  some_front : (b : ℕ) (rest : List ℕ) → 0 < front_length (utf16_front be b rest)
  unfolding utf16_front
  some_front b rest = grind arith

  meets : Meets (utf16 be) (utf16_machine be)
  meets =
      let steps = fits_meets (utf16 be) (utf16_front be) ev_is (utf16_may_hold be) (λ held. refl) in
      let reports = report_meets (utf16 be) (utf16_front be) ev_is in grind (arith, steps, fits, written, all_end, reports, some_front, false≢true)

  -- ---- the needs: a step writes at most `narrow` code units for each two bytes by which the input and the held-back bytes decrease

  module _ (len : ℕ → ℕ) (narrow wide : ℕ) (w : IsWidth len narrow wide) where
    halved : (held : List ℕ) (b : ℕ) → utf16_may_hold be held ≡ true → AreBytes held → IsByte b
        → let s = utf16_step be held b in let left = length (step_held s held b) + step_left s in
        (step_units len narrow s ≤ wide) × (left ≤ length held + 1) × (step_units len narrow s ≤ narrow * ((length held + 1 - left) / 2))
    halved held b h bytes byte = grind (arith, unit_below, bytes 0 0, false≢true)

  needs : (query : LengthQuery) → KeepsNeeds query (utf16 be) (utf16_machine be)
  needs query =
      let w = width_of (query_form query) in
      let few = halved (unit_count (query_form query)) (bmp_need (query_form query)) (wide_need (query_form query)) w in
      grind (arith, few, unit_below, false≢true)

  pub utf16_shown : IsShown (utf16 be) (utf16_machine be)
  utf16_shown = grind (arith, meets, needs, same_needs, false≢true)

  -- ---- the moves

  pub may : (h : Held) → utf16_may_hold be (held_bytes be h) ≡ true
  may h = grind (arith, high_not_low)

  bytes : (h : Held) → AreBytes (held_bytes be h)
  bytes h = grind (arith, nat_tests, All-nil IsByte, All-cons IsByte)

  pub covered : (h : Held) → IsCovered (state_of (utf16 be) (held_bytes be h))
  covered h = moves.covered utf16_shown _ (may h) (bytes h)

  pub feeds : (h : Held) (b : ℕ) → IsByte b → rests (utf16 be) (held_bytes be h) ≡ true → (fed : Fed) (kept : List ℕ) →
      Took (utf16_step be (held_bytes be h) b) (held_bytes be h) b fed kept → Feeds (state_of (utf16 be) (held_bytes be h)) b (state_of (utf16 be) kept) fed
  feeds h = moves.feeds utf16_shown _ (may h) (bytes h)

  pub releases : (p : UnitScalar) → Releases (state_of (utf16 be) (held_bytes be (Pending p))) (state_of (utf16 be) []) p.scalar
  releases p = moves.releases utf16_shown _ (may (Pending p)) (bytes (Pending p)) 2 p.scalar (grind arith) (grind arith) (grind (arith, nat_tests))

  pub reports : (h : Held) → rests (utf16 be) (held_bytes be h) ≡ true → held_bytes be h ≢ [] →
      Reports (state_of (utf16 be) (held_bytes be h)) (state_of (utf16 be) []) (length (held_bytes be h)) 0
  reports h = moves.reports_all utf16_shown _ (may h) (bytes h)

  -- there is something to report exactly if bytes are held back
  pub ends_none : events_of (utf16 be) [] ≡ []
  ends_none = moves.ends_none utf16_shown [] refl (All-nil IsByte) refl refl

  pub ends_some : (h : Held) → (h ≡ Nothing → ⊥) → events_of (utf16 be) (held_bytes be h) ≢ []
  ends_some h n = moves.ends_held utf16_shown _ (may h) (bytes h) (grind arith)
