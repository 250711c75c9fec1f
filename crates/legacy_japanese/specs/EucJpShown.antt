-- The steps of EUC-JP agree with its grammar.
use Rattle.std.proofs.{Common.{◌≡◌, ℕ, ◌+◌, ◌-◌, ◌*◌, ◌≤◌, List, [], ◌∷◌, true, cond, refl, inl, ◌∙◌, arith}, lemmas.Bool.{false≢true, ltb-true}}
use Rattle.std.{proofs.lemmas.Bool.Decides.nat_tests, specs.Char.is_ascii}
use Rattle.legacy_base.specs.EucJp.{euc_jp_front, euc_jp_katakana, euc_jp_second, euc_jp_third, euc_jp_pair, euc_jp_scalars, euc_jp_weight}
use Rattle.legacy_base.specs.{Fronts.{Front, cut}, Grammar.{Grammar, euc_jp, events_of}, DecoderActs.{act_need, takes}, States.{euc_jp_may_hold, state_of}}
use Rattle.{legacy_base.proofs.{Cuts.cut-nil, FrontLaws.euc_jp_front-of}, legacy_decoder_engine.specs.Steps.{DecoderMachine, end_events, Meets}}
use Rattle.legacy_decoder_engine.specs.{StepUnits.{units, IsWidth, IsNarrowIndex, Cost}, StatesAfterSteps.Settles, Shown.IsShown, ReadAhead.HasAscii}
use Rattle.legacy_decoder_engine.proofs.{YieldedForms.{has_ascii, ascii_is}, FrontMoves.{Fits, fits_test, fits_trail, fits_meets, end_meets, report_meets}}
use Rattle.legacy_decoder_engine.proofs.{SettledSteps.{one_test, one_option, settles_test, trail_settles}, CallUnderWay.same_needs, Widths.narrow_idx_units}
use Rattle.legacy_decoder_engine.proofs.{NeedMoves.{first_need, held_need_is, HasCosts, sloped_needs}, TwoByteCosts.{cost_test, units_test, katakana_below}}
use Rattle.{legacy_japanese.specs.EucJpMachine.euc_jp_machine, legacy_tables.specs.AcceptedTables.AcceptedIndexes}
use Rattle.legacy_tables.proofs.Accepted.{jis0208-below, jis0212-below}

module _ (tables : AcceptedIndexes) where
  abbrev g : Grammar
  g = euc_jp tables.flat.jis0208 tables.flat.jis0212

  abbrev front : ℕ → List ℕ → Front
  front = euc_jp_front tables.flat.jis0208 tables.flat.jis0212

  abbrev machine : DecoderMachine
  machine = euc_jp_machine tables.flat.jis0208 tables.flat.jis0212

  -- ---- the front of each step

  fits : (held : List ℕ) (b : ℕ) → euc_jp_may_hold held ≡ true → Fits front euc_jp_may_hold held b (machine.step held b)
  unfolding euc_jp_front euc_jp_katakana euc_jp_second euc_jp_third euc_jp_pair
  fits held b h = grind (arith, nat_tests, fits_test, fits_trail, false≢true)

  settles : (held : List ℕ) (b : ℕ) → euc_jp_may_hold held ≡ true → Settles g held b (machine.step held b)
  settles held b h = grind (arith, settles_test, trail_settles, one_test, one_option, false≢true)

  -- ---- the end of input

  ev_is : (bytes : List ℕ) → events_of g bytes ≡ cut front 0 0 bytes
  unfolding events_of
  ev_is bytes = refl

  all_end : (held : List ℕ) → euc_jp_may_hold held ≡ true → events_of g held ≡ end_events held
  unfolding euc_jp_front euc_jp_katakana euc_jp_second euc_jp_third euc_jp_pair
  all_end [] h = ev_is [] ∙ cut-nil front
  all_end (b ∷ held) h = end_meets g front ev_is b held (grind (arith, nat_tests, false≢true))

  -- ---- the need of each step

  -- what a byte needs
  abbrev most : List ℕ → ℕ → ℕ → ℕ
  most [] b narrow = cond (is_ascii b) 1 narrow
  most (a ∷ held) b narrow = narrow

  need_is : (narrow wide : ℕ) (held : List ℕ) (b : ℕ) → act_need narrow wide (state_of g held) (takes b) ≡ most held b narrow
  need_is narrow wide held b = grind (arith, first_need, held_need_is)

  module _ (len : ℕ → ℕ) (narrow wide : ℕ) (w : IsWidth len narrow wide) where
    pair_units : (index : List ℕ) (lead b : ℕ) → IsNarrowIndex index → units len (euc_jp_scalars index lead b) ≤ narrow
    pair_units index lead b h =
        units_test len narrow wide w narrow _ _ [] (λ e. narrow_idx_units len narrow wide w index ((lead - 0xA1) * 94 + (b - 0xA1)) h) (λ e. omega arith)

    costs : (held : List ℕ) (b : ℕ) → euc_jp_may_hold held ≡ true → Cost len narrow (most held b narrow) euc_jp_weight 3 held b (machine.step held b)
    costs held b h =
        let first = jis0208-below tables.flat tables.accepted in
        let second = jis0212-below tables.flat tables.accepted in
        grind (arith, cost_test, ltb-true, pair_units, katakana_below, false≢true)

  -- the machine over checked tables
  pub euc_jp_is_shown : IsShown g machine
  euc_jp_is_shown =
      let meets : Meets g machine = record {
        writes = λ held h. refl;
        steps = λ held b h r. fits_meets g front ev_is euc_jp_may_hold (λ held'. refl) held b _ (grind arith) (fits held b h);
        ends = λ held h r. all_end held h;
        reports = λ held more h r. report_meets g front ev_is held more
            (λ b rest e. (euc_jp_front-of {P = ⊥} tables.flat.jis0208 tables.flat.jis0212 (λ n. absurd n) (λ n. absurd n) b rest).some);
        few = λ held h. grind arith;
      } in
      let costs : HasCosts g machine euc_jp_weight 3 = record {
        to_is = λ held b. refl;
        cost = λ len narrow wide w held b h r bytes byte. rw (need_is narrow wide held b) (costs len narrow wide w held b h);
      } in record {
        meets = meets;
        needs = λ query. sloped_needs g machine euc_jp_weight 3 meets costs (grind arith) query;
        settles = λ held b h r. settles held b h;
        write_settles = λ held h. tt;
        same_needs = λ held b. same_needs g;
        same_marks = λ held b. refl;
        ascii_first = λ s b a. rw a refl;
        swallows = inl refl;
      }

  pub ascii : HasAscii g
  ascii = has_ascii euc_jp_is_shown (λ b. refl) (λ b h. let a = ascii_is b h in rw a refl)
