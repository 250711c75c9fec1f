-- The machine of gb18030 agrees with its grammar.
use Rattle.std.proofs.{Common.{◌≡◌, ℕ, ◌<◌, ◌≤◌, List, [], ◌∷◌, length, true, false, refl, ◌==◌, arith}, lemmas.Bool.{false≢true, ltb-true, Decides.nat_tests}}
use Rattle.std.specs.Char.{is_ascii, is_ascii_digit}
use Rattle.legacy_base.specs.Gb18030.{gb18030_scalars, gb18030_range_pointer, gb18030_fourth, gb18030_third, gb18030_second, gb18030_front}
use Rattle.legacy_base.{specs.{States.{is_lead, gb18030_may_hold, rests}, Grammar.{Grammar, gb18030, events_of}}, proofs.FrontLaws.gb18030_front-of}
use Rattle.{legacy_base.{specs.Fronts.{Front, cut}, proofs.Cuts.cut-nil}, legacy_chinese.specs.Gb18030Machine.{gb18030_pending, gb18030_step, gb18030_machine}}
use Rattle.legacy_decoder_engine.proofs.{SettledSteps.{settles_test, one_test, one_option, trail_settles, or_settles, write_test}, CallUnderWay.same_needs}
use Rattle.legacy_decoder_engine.proofs.{FrontMoves.{Fits, fits_trail, fits_meets, write_meets, end_meets, report_meets}, YieldedForms.{has_ascii, ascii_is}}
use Rattle.legacy_decoder_engine.proofs.{NeedMoves.{first_need, held_need_is, HasCosts, sloped_needs}, Widths.{idx_units, option_units}}
use Rattle.legacy_decoder_engine.{specs.Steps.{DecoderMachine, WriteMeets, end_events, Meets}, proofs.TwoByteCosts.{cost_test, units_test, trail_cost}}
use Rattle.legacy_decoder_engine.specs.{StepUnits.{units, IsWidth, Cost}, Shown.{IsShown, WriteSettles}, StatesAfterSteps.Settles, ReadAhead.HasAscii}
use Rattle.{legacy_tables.specs.{AcceptedTables.AcceptedIndexes, Indexes.range}, legacy_text.proofs.CodeUnits.length-code_units-ascii}

-- a lead is no other first byte
pub lead_other : (b : ℕ) → is_lead b ≡ true → (is_ascii b ≡ false) × ((b == 0x80) ≡ false) × (is_ascii_digit b ≡ false)
lead_other b is = grind (arith, nat_tests)

digit_other : (b : ℕ) → is_ascii_digit b ≡ true → (is_lead b ≡ false) × (b < 0x80)
digit_other b h = grind (arith, nat_tests)

module _ (len : ℕ → ℕ) (narrow wide : ℕ) (w : IsWidth len narrow wide) where
  held_cost : (index : List ℕ) (ranges : List (ℕ × ℕ)) (a : ℕ) (held : List ℕ) (b : ℕ) → gb18030_may_hold (a ∷ held) ≡ true →
      Cost len narrow wide length 6 (a ∷ held) b (gb18030_step index ranges (a ∷ held) b)
  held_cost index ranges a held b h =
      let few = λ (d e : ℕ). option_units len narrow wide w (range ranges (gb18030_range_pointer a d e b)) in
      let pair : units len (gb18030_scalars index a b) ≤ wide = grind (arith, units_test, idx_units) in
      let trail = trail_cost len narrow wide w wide 6 a b (gb18030_scalars index a b) pair (omega arith) (omega arith) (omega arith) in
      grind (arith, cost_test, few, false≢true)

module _ (index : List ℕ) (ranges : List (ℕ × ℕ)) where
  abbrev g : Grammar
  g = gb18030 index ranges

  abbrev front : ℕ → List ℕ → Front
  front = gb18030_front index ranges

  abbrev machine : DecoderMachine
  machine = gb18030_machine index ranges

  -- ---- fronts

  fits : (held : List ℕ) (b : ℕ) → gb18030_may_hold held ≡ true → rests g held ≡ true → Fits front gb18030_may_hold held b (gb18030_step index ranges held b)
  unfolding gb18030_front gb18030_second gb18030_third gb18030_fourth
  fits held b h r = grind (arith, nat_tests, fits_trail, lead_other, false≢true)

  ev_is : (bytes : List ℕ) → events_of g bytes ≡ cut front 0 0 bytes
  unfolding events_of
  ev_is bytes = refl

  -- a digit to write
  written : (b : ℕ) (held : List ℕ) → gb18030_may_hold (b ∷ held) ≡ true → is_ascii_digit b ≡ true → WriteMeets g (b ∷ held) 1 b
  unfolding gb18030_front
  written b held h d =
      write_meets g front ev_is (b ∷ held) 1 b (λ more. grind (arith, nat_tests)) (omega arith) (omega arith) (grind (arith, digit_other, false≢true))

  all_end : (held : List ℕ) → gb18030_may_hold held ≡ true → rests g held ≡ true → events_of g held ≡ end_events held
  unfolding gb18030_front gb18030_second gb18030_third gb18030_fourth
  all_end held h r = let ends = end_meets g front ev_is in grind (arith, ends, lead_other, ev_is, cut-nil front, false≢true)

  meets : Meets g machine
  meets =
      let steps = fits_meets g front ev_is gb18030_may_hold (λ held. refl) in
      let reports = report_meets g front ev_is in
      let some = λ (b : ℕ) (rest : List ℕ). (gb18030_front-of {P = ⊥} index ranges (λ n. absurd n) (λ p c q n. absurd n) b rest).some in
      grind (arith, steps, fits, written, all_end, reports, some, false≢true)

  -- ---- needs

  costs : HasCosts g machine length 6
  costs = record {
    to_is = λ held b. refl;
    cost = λ len narrow wide w. elim [
      | [] ↦ λ b h r bytes byte. rw (first_need (is_ascii b) 1 wide) (grind (arith, cost_test, ltb-true))
      | a ∷ held ↦ λ b h r bytes byte. rw (held_need_is (is_ascii b) true 1 wide) (held_cost _ _ _ w index ranges a held b h)
    ];
  }

  -- ---- states

  settles : (held : List ℕ) (b : ℕ) → gb18030_may_hold held ≡ true → rests g held ≡ true → Settles g held b (gb18030_step index ranges held b)
  settles held b h r = grind (arith, nat_tests, settles_test, lead_other, trail_settles, one_test, or_settles, one_option, false≢true)

  write_settles : (held : List ℕ) → gb18030_may_hold held ≡ true → WriteSettles g held (gb18030_pending held)
  write_settles held h = grind (arith, write_test, lead_other, digit_other, false≢true)

  pub gb18030_shown : IsShown g machine
  gb18030_shown =
      let needs = sloped_needs g machine length 6 meets costs (grind (arith, digit_other, length-code_units-ascii)) in
      grind (arith, meets, needs, settles, write_settles, same_needs)

pub ascii : (tables : AcceptedIndexes) → HasAscii (gb18030 tables.flat.gb18030 tables.flat.ranges)
ascii tables = has_ascii (gb18030_shown tables.flat.gb18030 tables.flat.ranges) (λ b. refl) (λ b h. let a = ascii_is b h in rw a refl)
