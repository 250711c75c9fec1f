-- Writing the codes of several UTF-16 code units at a time.
use Rattle.std.proofs.Common.{◌≡◌, ◌∙◌, ℕ, suc, ◌+◌, ◌<◌, ◌≤◌, List, [], ◌∷◌, ◌++◌, length, take, get_or, refl, sym, ap, subst, arith, append_assoc}
use Rattle.std.proofs.{Math.Seq.{take-suc, take-append-add}, lemmas.Bool.cases_lt, lemmas.List.{length-take-le, take-take}}
use Rattle.std.proofs.lemmas.Grind.{common_steps}
use Rattle.legacy_base.specs.Encoders.{EncoderState, encoder_profile, scalar_need}
use Rattle.legacy_encoder_engine.specs.{ProfileSuffices.Serves, WrittenUnits.{PutsUnits, ReadsUnit, two_bytes}}
use Rattle.legacy_text.{specs.{EncodingForm.EncodingForm, UnitTurns.TakesUnits}, proofs.CodeUnits.total_unit_count-append}
use Rattle.legacy_encoder_engine.specs.UnfinishedCall.{EncodesAhead, KeepsOn}
use Rattle.legacy_encoder_engine.proofs.ReadingAhead.{keeps_then, keeps_move}

-- two bytes were written after the old bytes, and the first `count` of them are kept
pub kept : (at count : ℕ) (old new bytes : List ℕ) → length old ≡ at → count ≤ 2
    → take (at + 2) new ≡ old ++ bytes → take (at + count) new ≡ old ++ take count bytes
kept at count old new bytes long few e = grind (arith, common_steps, take-take (at + count) (at + 2) new, take-append-add old bytes count)

-- the earlier bytes are unchanged
pub stays : (start at : ℕ) (old new bytes : List ℕ) (end : ℕ) → start ≤ at → at ≤ length old
    → at ≤ end → take end new ≡ take at old ++ bytes → take start new ≡ take start old
stays start at old new bytes end within fits le e = grind (arith, common_steps, take-take start end new, take-take start at old)

module _ (state : EncoderState) (free : ℕ) where
  -- one more code unit
  pub units_more : (serves : Serves (encoder_profile state.codec)) (units old bytes new : List ℕ) (k c both count : ℕ)
      → PutsUnits state free (take k units) old bytes
      → k < length units → get_or units k 0 ≡ c → ReadsUnit state c both count
      → length bytes + scalar_need state c ≤ free → new ≡ bytes ++ take count (two_bytes both)
      → PutsUnits state free (take (k + 1) units) old new
  units_more serves units old bytes new k c both count before within is own room new_is =
      let units_are : take (suc k) units ≡ take k units ++ c ∷ [] = take-suc units k 0 within ∙ ap (λ x. take k units ++ x ∷ []) is in
      let long : length (take k units) ≡ k = length-take-le k units (omega arith) in
      let one : suc k ≡ k + 1 = omega arith in
      subst (λ n. PutsUnits state free (take n units) old new) one (record {
        bmp = λ j h. grind (arith, common_steps, before.bmp j, own.bmp, units_are, long, cases_lt j k);
        keeps = λ rest.
            let second = keeps_move state free serves (c ∷ rest) bytes c rest own.move refl own.moves own.reads own.silent (omega arith) in
            rw (new_is ∙ ap (λ l. bytes ++ l) (sym own.bytes), units_are, append_assoc (take k units) (c ∷ []) rest)
            (keeps_then (before.keeps (c ∷ rest)) second);
      })

-- code units were taken from the source, and their bytes are written
pub encodes_units : {state : EncoderState} {form : EncodingForm} {free passed passed' passed'' start at end : ℕ}
    {left left' left'' bytes bytes' bytes'' units : List ℕ}
    → EncodesAhead state form free left passed bytes start left' passed' bytes' at → TakesUnits form left' passed' units left'' passed''
    → PutsUnits state free units bytes' bytes'' → at ≤ end → end ≤ free → EncodesAhead state form free left passed bytes start left'' passed'' bytes'' end
encodes_units {state} {form} {free} {left' = left'} {left'' = left''} {bytes' = bytes'} {bytes'' = bytes''} {units = units} before takes puts le fits =
    let front = takes.front puts.bmp in
    let second : KeepsOn state free left' bytes' left'' bytes'' = rw front (puts.keeps left'') in
    record {
      keeps = keeps_then before.keeps second;
      start = omega (arith, before.start);
      end = fits;
      units = omega (arith, rw front at before.units, takes.passed_is puts.bmp, total_unit_count-append form units left'');
    }
