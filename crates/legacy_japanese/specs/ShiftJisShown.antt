-- The steps of Shift_JIS agree with its grammar.
use Rattle.std.proofs.{Common.{◌≡◌, ℕ, ◌<◌, ◌≤◌, List, [], ◌∷◌, Option, Bool, true, false, cond, refl, ◌||◌, ◌==◌, arith}, lemmas.Bool.eqb-true}
use Rattle.std.{proofs.lemmas.Bool.Decides.nat_tests, specs.{Prelude.if◌then◌else◌, Option.option_map_or, Char.is_ascii}}
use Rattle.legacy_base.specs.{ShiftJis.{shift_jis_front, shift_jis_pair, is_shift_jis_lead, shift_jis_scalars, shift_jis_pointer}, Grammar.shift_jis}
use Rattle.{legacy_base.specs.Fronts.{Front, reads, malformed}, legacy_tables.{specs.Unicode.{is_katakana_byte, katakana_of}, proofs.Accepted.jis0208-below}}
use Rattle.legacy_decoder_engine.specs.{Steps.{Step, hold, finish}, StepUnits.{units, IsWidth, IsNarrowIndex}}
use Rattle.legacy_decoder_engine.{specs.LeadCodecs.IsLeadCodec, proofs.TwoByteMeets.{IsFirstStep, ascii, other, IsTwoByte, step_front, first_test, front_test}}
use Rattle.legacy_decoder_engine.proofs.{Widths.narrow_idx_units, SettledSteps.{one_test, one_option}, TwoByteCosts.katakana_below}
use Rattle.legacy_decoder_engine.proofs.TwoByteShown.{HasTwoByteNeeds, lead_codec}

-- the step at a byte if nothing is held back
abbrev pub shift_jis_first : ℕ → Step
shift_jis_first b =
    if is_ascii b || b == 0x80 then finish (reads 1 (b ∷ []))
    else if is_katakana_byte b then finish (reads 1 (katakana_of b ∷ []))
    else if is_shift_jis_lead b then hold
    else finish (malformed 1)

-- the scalar of a lead and a trail, if there is one
abbrev pub shift_jis_pair_scalars : List ℕ → ℕ → ℕ → List ℕ
shift_jis_pair_scalars jis0208 lead trail = option_map_or (shift_jis_scalars jis0208) (shift_jis_pointer lead trail) []

single : (b c : ℕ) → is_ascii b ≡ false → is_shift_jis_lead b ≡ false → c < 0x1_0000 → IsFirstStep is_shift_jis_lead 6 b (finish (reads 1 (c ∷ [])))
single b c past lead below = other c refl past lead below (omega arith)

own : (b : ℕ) (t : Bool) → is_ascii b ≡ t → (t || b == 0x80) ≡ true → IsFirstStep is_shift_jis_lead 6 b (finish (reads 1 (b ∷ [])))
own b true a e = ascii refl a (grind (arith, nat_tests)) (omega arith)
own b false a e = let at = eqb-true b 0x80 e in single b b a (rw at refl) (omega arith)

first_is : (b : ℕ) → IsFirstStep is_shift_jis_lead 6 b (shift_jis_first b)
first_is b =
    first_test is_shift_jis_lead 6 b (is_ascii b || b == 0x80) _ _ (own b (is_ascii b) refl) (λ a. first_test is_shift_jis_lead 6 b (is_katakana_byte b) _ _
    (λ k. let below = katakana_below b k in single b (katakana_of b) (grind (arith, nat_tests)) (grind (arith, nat_tests)) (omega arith))
    (λ k. grind (arith, nat_tests, first_test)))

front_is : (jis0208 : List ℕ) (b : ℕ) (rest : List ℕ) (pair : Front) → pair ≡ step_front (shift_jis_pair_scalars jis0208 b) rest hold →
    cond (is_ascii b || b == 0x80) (reads 1 (b ∷ [])) (cond (is_katakana_byte b) (reads 1 (katakana_of b ∷ [])) (cond (is_shift_jis_lead b) pair (malformed 1)))
    ≡ step_front (shift_jis_pair_scalars jis0208 b) rest (shift_jis_first b)
front_is jis0208 b rest pair e = grind (arith, front_test)

scalar_units : (len : ℕ → ℕ) (narrow wide : ℕ) → IsWidth len narrow wide → (jis0208 : List ℕ) → IsNarrowIndex jis0208
    → (o : Option ℕ) → units len (option_map_or (shift_jis_scalars jis0208) o []) ≤ narrow
scalar_units len narrow wide w jis0208 h o = grind (arith, nat_tests, w.bmp, narrow_idx_units len narrow wide w jis0208)

is : (jis0208 : List ℕ) → IsTwoByte (shift_jis jis0208) (shift_jis_front jis0208) is_shift_jis_lead shift_jis_first (shift_jis_pair_scalars jis0208)
unfolding shift_jis_front shift_jis_pair
is jis0208 = grind (arith, front_is, one_test, one_option)

needs : (jis0208 : List ℕ) → IsNarrowIndex jis0208 → HasTwoByteNeeds (shift_jis jis0208) (shift_jis_pair_scalars jis0208) 6
needs jis0208 accepted =
    let pairs = λ (len : ℕ → ℕ) (narrow wide : ℕ) (w : IsWidth len narrow wide) (a b : ℕ).
    scalar_units len narrow wide w jis0208 accepted (shift_jis_pointer a b) in
    grind (arith, pairs)

pub shift_jis_codec : IsLeadCodec (λ flat. shift_jis flat.jis0208) is_shift_jis_lead shift_jis_first (λ flat. shift_jis_pair_scalars flat.jis0208)
shift_jis_codec =
    lead_codec (λ flat. shift_jis flat.jis0208) (λ flat. shift_jis_front flat.jis0208) is_shift_jis_lead shift_jis_first
    (λ flat. shift_jis_pair_scalars flat.jis0208) (λ flat. is flat.jis0208) 6 first_is (λ flat accepted. needs flat.jis0208 (jis0208-below flat accepted))
    (λ b h. grind (arith, nat_tests))
