-- The machines of codecs with sequences of one and two bytes agree with their grammars.
use Rattle.std.proofs.Common.{refl, ◌≡◌, ◌∙◌, ℕ, ◌<◌, ◌≤◌, List, [], ◌∷◌, Bool, true, false, cond, ap, arith}
use Rattle.std.{specs.Char.is_ascii, proofs.lemmas.Bool.{false≢true, cond_both, Decides.nat_tests}}
use Rattle.legacy_base.specs.{Fronts.{Front, reads, malformed, reads_or, trail_rule, cut}, States.{is_lead, single_lead_may_hold, may_hold}}
use Rattle.legacy_base.{specs.{Profile.{Profile, lead_profile}, Grammar.{Grammar, profile, events_of}, DecoderActs.has_marks}, proofs.Cuts.cut-nil}
use Rattle.legacy_decoder_engine.specs.{Steps.{Step, hold, end_events, ReportMeets, Meets}, LeadMachines.{two_byte_machine, lead_first}, LeadCodecs.IsPastAscii}
use Rattle.legacy_decoder_engine.{specs.{Steps.finish, StatesAfterSteps.IsOneOrMarked}, proofs.FrontMoves.{fits_trail, fits_meets, end_meets, report_meets}}

-- The kinds of first bytes: ASCII, which is its own scalar; another scalar up to U+FFFF; a lead; or malformed. For each
-- two bytes, `paid` code units are enough for the scalar.
pub data IsFirstStep (is_lead_byte : ℕ → Bool) (paid b : ℕ) (s : Step) : Type 0 where
  ascii : s ≡ finish (reads 1 (b ∷ [])) → is_ascii b ≡ true → is_lead_byte b ≡ false → 2 ≤ paid → IsFirstStep is_lead_byte paid b s
  other : (c : ℕ) → s ≡ finish (reads 1 (c ∷ [])) → is_ascii b ≡ false → is_lead_byte b ≡ false → c < 0x1_0000 → 6 ≤ paid → IsFirstStep is_lead_byte paid b s
  leads : s ≡ hold → is_ascii b ≡ false → is_lead_byte b ≡ true → IsFirstStep is_lead_byte paid b s
  fails : s ≡ finish (malformed 1) → is_ascii b ≡ false → is_lead_byte b ≡ false → IsFirstStep is_lead_byte paid b s

-- the front of a list that begins with a byte with this first step
abbrev pub step_front : (ℕ → List ℕ) → List ℕ → Step → Front
step_front scalars rest (finish f) = f
step_front scalars [] s = malformed 1
step_front scalars (t ∷ rest) s = reads_or 2 (scalars t) (trail_rule 1 t)

-- the common part of such profiles, with the rest from `own`
abbrev pub two_byte_profile : (ℕ → List ℕ → Front) → (ℕ → Bool) → Profile → Profile
two_byte_profile front is_lead_byte own = record (lead_profile front is_lead_byte) {
  wide_reads = own.wide_reads;
  wide_writes = own.wide_writes;
  marks = own.marks;
  lengths = own.lengths;
}

-- a codec with leads and trails: its profile, its front by the first step, and at most one scalar for a pair
pub record IsTwoByte (g : Grammar) (front : ℕ → List ℕ → Front) (is_lead_byte : ℕ → Bool) (first : ℕ → Step) (scalars : ℕ → ℕ → List ℕ) : Type 0 where
  pub profile_is : profile g ≡ two_byte_profile front is_lead_byte (profile g)
  pub front_is : (b : ℕ) (rest : List ℕ) → front b rest ≡ step_front (scalars b) rest (first b)
  pub pair_one : (lead t : ℕ) → IsOneOrMarked (has_marks g) (scalars lead t)

module _ (is_lead_byte : ℕ → Bool) (paid : ℕ) (first : ℕ → Step) (firsts : (b : ℕ) → IsFirstStep is_lead_byte paid b (first b)) where
  pub ascii_first : (b : ℕ) → is_ascii b ≡ true → first b ≡ finish (reads 1 (b ∷ []))
  ascii_first b a = grind (arith, nat_tests)

  pub lead_holds : (b : ℕ) → is_lead_byte b ≡ true → first b ≡ hold
  lead_holds b l = grind (arith, nat_tests)

module _ (g : Grammar) (front : ℕ → List ℕ → Front) (is_lead_byte : ℕ → Bool) (first : ℕ → Step) (scalars : ℕ → ℕ → List ℕ)
    (is : IsTwoByte g front is_lead_byte first scalars)
    (paid : ℕ) (firsts : (b : ℕ) → IsFirstStep is_lead_byte paid b (first b)) where
  pub may_is : (held : List ℕ) → may_hold g held ≡ single_lead_may_hold is_lead_byte held
  may_is held = ap (λ p. p.may_hold held) is.profile_is

  ev_is : (bytes : List ℕ) → events_of g bytes ≡ cut front 0 0 bytes
  unfolding events_of
  ev_is bytes = ap (λ p. p.events bytes) is.profile_is

  all_ends : (held : List ℕ) → single_lead_may_hold is_lead_byte held ≡ true → events_of g held ≡ end_events held
  all_ends [] h = ev_is [] ∙ cut-nil front
  all_ends (b ∷ held) h = end_meets g front ev_is b held (grind (arith, lead_holds, false≢true))

  all_reports : (held more : List ℕ) → single_lead_may_hold is_lead_byte held ≡ true → ReportMeets g held more
  all_reports held more h = report_meets g front ev_is held more (grind (arith, lead_holds, cond_both, false≢true))

  pub two_byte_meets : Meets g (two_byte_machine g first scalars)
  two_byte_meets =
      let fits = fits_meets g front ev_is (single_lead_may_hold is_lead_byte) may_is in
      grind (arith, may_is, is.profile_is, fits, false≢true, fits_trail, lead_holds, all_ends, all_reports)

pub first_test : (is_lead_byte : ℕ → Bool) (paid b : ℕ) (t : Bool) (s₁ s₂ : Step) →
    (t ≡ true → IsFirstStep is_lead_byte paid b s₁) → (t ≡ false → IsFirstStep is_lead_byte paid b s₂) → IsFirstStep is_lead_byte paid b (cond t s₁ s₂)
first_test is_lead_byte paid b true s₁ s₂ f₁ f₂ = f₁ refl
first_test is_lead_byte paid b false s₁ s₂ f₁ f₂ = f₂ refl

pub front_test : (scalars : ℕ → List ℕ) (rest : List ℕ) (t : Bool) (f₁ f₂ : Front) (s₁ s₂ : Step) →
    f₁ ≡ step_front scalars rest s₁ → f₂ ≡ step_front scalars rest s₂ → cond t f₁ f₂ ≡ step_front scalars rest (cond t s₁ s₂)
front_test scalars rest t f₁ f₂ s₁ s₂ h h1 = grind arith

module _ (is_lead_byte : ℕ → Bool) (are_leads : (b : ℕ) → is_lead_byte b ≡ true → IsPastAscii b) where
  pub lead_byte_below : (b : ℕ) → is_lead_byte b ≡ true → b < 0x100
  lead_byte_below b h = (are_leads b h).1

  pub lead_first_is : (paid : ℕ) → 2 ≤ paid → (b : ℕ) → IsFirstStep is_lead_byte paid b (lead_first is_lead_byte b)
  lead_first_is paid enough b = grind (arith, nat_tests, first_test, are_leads)

pub lead_front_is : (is_lead_byte : ℕ → Bool) (scalars : ℕ → List ℕ) (rest : List ℕ) (pair : Front) (b : ℕ) → pair ≡ step_front scalars rest hold →
    cond (is_ascii b) (reads 1 (b ∷ [])) (cond (is_lead_byte b) pair (malformed 1)) ≡ step_front scalars rest (lead_first is_lead_byte b)
lead_front_is is_lead_byte scalars rest pair b e = grind (arith, front_test)

pub is_lead-past : (b : ℕ) → is_lead b ≡ true → IsPastAscii b
is_lead-past b h = grind (arith, nat_tests)

pub is_lead-in : (b : ℕ) → 0x81 ≤ b → b ≤ 0xFE → is_lead b ≡ true
is_lead-in b low high = grind (arith, nat_tests)
