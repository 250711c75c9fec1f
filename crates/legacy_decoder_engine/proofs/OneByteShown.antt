-- The proof for the decoders of single bytes, which hold nothing back, from the few facts that each shows.
use Rattle.std.proofs.Common.{◌≤◌, length, true, ◌≡◌, ℕ, ◌<◌, List, [], ◌∷◌, Bool, cond, Option, option_to_list, ap, arith}
use Rattle.std.{proofs.lemmas.Bool.{cond_both, false≢true, ltb-true}, specs.{Char.is_ascii, Option.IfSome}}
use Rattle.legacy_decoder_engine.{specs.{Steps.{ReportMeets, Step, finish, no_pending, DecoderMachine, Meets}, Shown.IsShown}, proofs.SettledSteps.one_option}
use Rattle.legacy_decoder_engine.proofs.{SettledSteps.or_settles, CallUnderWay.same_needs, FrontMoves.fits_meets, NeedMoves.{HasCosts, sloped_needs}}
use Rattle.{legacy_tables.specs.Unicode.IsByte, legacy_base.{specs.Fronts.{Front, reads, malformed, reads_or, cut}, proofs.Cuts.cut-nil}}
use Rattle.legacy_base.specs.{Grammar.{Grammar, profile, events_of}, States.may_hold, Profile.{Profile, byte_profile, is_empty, weightless}}

pub few_held : (held : List ℕ) → is_empty held ≡ true → length held ≤ 3
few_held held h = grind (arith, false≢true)

pub no_report : (g : Grammar) (held more : List ℕ) → is_empty held ≡ true → ReportMeets g held more
no_report g held more h h1 = grind (arith, false≢true)

abbrev pub one_byte_profile : (ℕ → List ℕ → Front) → Bool → Profile
one_byte_profile front short = record (byte_profile (cut front 0 0)) { short_ascii = short }

-- its profile, and its front by the scalar of each byte past ASCII, which is at most U+FFFF
pub record IsOneByte (g : Grammar) (front : ℕ → List ℕ → Front) (found : ℕ → Option ℕ) (short : Bool) : Type 0 where
  pub profile_is : profile g ≡ one_byte_profile front short
  pub front_is : (b : ℕ) (rest : List ℕ) → front b rest ≡ cond (is_ascii b) (reads 1 (b ∷ [])) (reads_or 1 (option_to_list (found b)) (malformed 1))
  pub below : (b : ℕ) → IsByte b → IfSome (found b) (λ c. c < 0x1_0000)

module _ (g : Grammar) (front : ℕ → List ℕ → Front) (found : ℕ → Option ℕ) (short : Bool) (is : IsOneByte g front found short) where
  abbrev first : ℕ → Step
  first b = cond (is_ascii b) (finish (reads 1 (b ∷ []))) (finish (reads_or 1 (option_to_list (found b)) (malformed 1)))

  abbrev machine : DecoderMachine
  machine = record { pending = no_pending; step = λ held b. first b; to = λ held b. g }

  may_is : (held : List ℕ) → may_hold g held ≡ is_empty held
  may_is held = ap (λ p. p.may_hold held) is.profile_is

  ev_is : (bytes : List ℕ) → events_of g bytes ≡ cut front 0 0 bytes
  unfolding events_of
  ev_is bytes = ap (λ p. p.events bytes) is.profile_is

  meets : Meets g machine
  meets = grind (arith, fits_meets g front ev_is is_empty may_is, cond_both, may_is, ev_is, cut-nil, false≢true, no_report, few_held)

  costs : HasCosts g machine weightless 6
  costs = grind (arith, may_is, false≢true, cond_both, ltb-true)

  pub one_byte_shown : IsShown g machine
  one_byte_shown = grind (arith, sloped_needs, meets, costs, false≢true, may_is, cond_both, or_settles, one_option, same_needs)
