-- The front of a list gives the move of a decoder, for every continuation.
use Rattle.std.proofs.Common.{◌≡◌, ℕ, suc, ◌+◌, ◌<◌, ◌≤◌, List, [], ◌∷◌, ◌++◌, drop, length, Bool, true, cond, refl, sym, ◌∙◌, append_assoc, length-append}
use Rattle.std.proofs.{Common.{false, length-drop, drop_of_length-le, le_refl, arith}, Math.Seq.{drop-length, drop-append_seam}, lemmas.List.drop-append-le}
use Rattle.legacy_base.specs.Fronts.{Front, reads, malformed, front_length, front_events, reads_or, trail_rule, cut}
use Rattle.legacy_base.specs.{Grammar.{Grammar, events_of}, declared.results.DecodeEvent.TheVariants.Bad, Beginnings.BeginsWith, Events.shift, States.may_hold}
use Rattle.legacy_base.proofs.{Shifts.shift-zero, Cuts.{cut-nil, cut-front}, Trips.HasFront, Beginnings.no_sooner}
use Rattle.legacy_decoder_engine.specs.Steps.{Step, hold, finish, leave, StepMeets, WriteMeets, end_events, ReportMeets, trail_step}

-- the front of a step is the same for every continuation
abbrev pub Fits : (ℕ → List ℕ → Front) → (List ℕ → Bool) → List ℕ → ℕ → Step → Type 0
Fits front may held b hold = (length held ≤ 2) × (may (held ++ b ∷ []) ≡ true)
Fits front may held b (finish f) = ((more : List ℕ) → HasFront front (held ++ b ∷ more) f) × (0 < front_length f) × (front_length f ≤ suc (length held)) ×
    (may (drop (front_length f) (held ++ b ∷ [])) ≡ true)
Fits front may held b (leave n) = ((more : List ℕ) → HasFront front (held ++ b ∷ more) (malformed n)) × (0 < n) × (n ≤ length held) × (may (drop n held) ≡ true)

pub fits_test : (front : ℕ → List ℕ → Front) (may : List ℕ → Bool) (held : List ℕ) (b : ℕ) (t : Bool) (s₁ s₂ : Step) →
    (t ≡ true → Fits front may held b s₁) → (t ≡ false → Fits front may held b s₂) → Fits front may held b (cond t s₁ s₂)
fits_test front may held b t s₁ s₂ h h1 = grind arith

pub fits_trail : (front : ℕ → List ℕ → Front) (may : List ℕ → Bool) (held : List ℕ) (scalars : List ℕ) (t : ℕ) → may [] ≡ true → 0 < length held →
    ((more : List ℕ) → HasFront front (held ++ t ∷ more) (reads_or (length held + 1) scalars (trail_rule (length held) t))) →
    Fits front may held t (trail_step (length held) scalars t)
fits_trail front may held scalars t h h1 h2 = grind (arith, drop_of_length-le, length-append, fits_test, le_refl, drop-length)

module _ (g : Grammar) (front : ℕ → List ℕ → Front) (ev_is : (bytes : List ℕ) → events_of g bytes ≡ cut front 0 0 bytes) where
  -- the events of the front, and then those of the bytes after it
  ev_front : (bytes after : List ℕ) (f : Front) → HasFront front bytes f → 0 < front_length f → drop (front_length f) bytes ≡ after →
      events_of g bytes ≡ front_events 0 f ++ shift (front_length f) (events_of g after)
  ev_front bytes after f h pos e = rw (ev_is bytes, ev_is after) (grind (arith, cut-front))

  -- if the events of a list begin with a malformed sequence of n bytes, its front is that sequence
  front_reported : (b : ℕ) (rest : List ℕ) (n : ℕ) (f : Front) → front b rest ≡ f → 0 < front_length f
      → BeginsWith (events_of g (b ∷ rest)) (Bad 0 n ∷ []) → f ≡ malformed n
  front_reported b rest n (reads k []) e some begins =
      absurd (no_sooner k 0 n (events_of g (drop k (b ∷ rest))) begins.0 some (sym (ev_front (b ∷ rest) _ (reads k []) e some refl) ∙ begins.1))
  front_reported b rest n f e some begins = grind (arith, sym (ev_front (b ∷ rest) _ f e some refl) ∙ begins.1)

  pub fits_meets : (may : List ℕ → Bool) → ((held : List ℕ) → may_hold g held ≡ may held) → (held : List ℕ) (b : ℕ) (s : Step) → length held ≤ 3
      → Fits front may held b s → StepMeets g held b s g
  fits_meets may may_is held b hold few fits = grind (arith, may_is, append_assoc, shift-zero, length-append)
  fits_meets may may_is held b (finish f) few fits =
      let goes_on = λ (more : List ℕ). ev_front (held ++ b ∷ more) (drop (front_length f) (held ++ b ∷ []) ++ more) f (fits.0 more) fits.1
      (grind (arith, append_assoc, drop-append-le (front_length f) (held ++ b ∷ []) more, length-append)) in
      grind (arith, may_is, length-append, length-drop)
  fits_meets may may_is held b (leave n) few fits =
      let goes_on = λ (more : List ℕ). ev_front (held ++ b ∷ more) _ (malformed n) (fits.0 more) fits.1 (drop-append-le n held (b ∷ more) fits.2) in
      grind (arith, may_is, length-drop)

  pub write_meets : (held : List ℕ) (n c : ℕ) → ((more : List ℕ) → HasFront front (held ++ more) (reads n (c ∷ []))) → 0 < n → n ≤ length held
      → may_hold g (drop n held) ≡ true → WriteMeets g held n c
  write_meets held n c has pos le may =
      let goes_on = λ (more : List ℕ). ev_front (held ++ more) _ (reads n (c ∷ [])) (has more) pos (drop-append-le n held more le) in
      grind (arith, length-drop)

  -- all held-back bytes are malformed at the end of input
  pub end_meets : (b : ℕ) (held : List ℕ) → front b held ≡ malformed (length (b ∷ held)) → events_of g (b ∷ held) ≡ end_events (b ∷ held)
  end_meets b held h = grind (arith, ev_is [], cut-nil front, ev_front (b ∷ held) [] (malformed (length (b ∷ held))), drop-length (b ∷ held))

  -- they are also malformed with bytes after them if the same sequence is reported
  pub report_meets : (held more : List ℕ) → ((b : ℕ) (rest : List ℕ) → held ++ more ≡ b ∷ rest → 0 < front_length (front b rest)) → ReportMeets g held more
  report_meets [] more some pos g = absurd (omega arith)
  report_meets (b ∷ held) more some pos g =
      let is = front_reported b (held ++ more) (length (b ∷ held)) _ refl (some b (held ++ more) refl) in
      grind (arith, is, ev_is, ev_front (b ∷ (held ++ more)) more (malformed (length (b ∷ held))), drop-append_seam (b ∷ held) more)
