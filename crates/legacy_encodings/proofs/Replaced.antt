-- Whether something was replaced in all calls over an input or a text.
use Rattle.std.proofs.Common.{◌≡◌, ◌∙◌, ℕ, ◌≤◌, List, [], ◌++◌, length, refl, sym, ap, arith, append-nil, Bool, true, false, ◌||◌, Some, IsTrue, inl}
use Rattle.std.proofs.{lemmas.List.drop_all, lemmas.List.Folds.list_any-append}
use Rattle.legacy_text.specs.EncodingForm.{EncodingForm, Utf8}
use Rattle.legacy_base.specs.{Encoders.{EncoderState, encoded}, Grammar.events_of, Lengths.{query_answer, to_utf8}, States.DecoderState}
use Rattle.legacy_base.proofs.EncoderLaws.{end-encoded}
use Rattle.legacy_codecs.specs.{declared.results.CoderResult.CoderResult, declared.results.CoderResult.TheVariants.{InputEmpty, OutputFull}}
use Rattle.legacy_codecs.specs.{References.{has_unmappable, is_unmappable, ReplacingEncoderCall}, Replacing.{has_malformed, ReplacingDecoderCall}}
use Rattle.legacy_codecs.proofs.{Replaced.{has_malformed-append, has_malformed-shift}, WholeTexts.wrote_last}

-- a last call that read its whole source told whether one of all events was malformed
pub found_with_room : {before : DecoderState} {source : List ℕ} {free : ℕ} {after : DecoderState} {answer : CoderResult} {read : ℕ} {written : List ℕ}
    {found : Bool} →
    ReplacingDecoderCall Utf8 before source true free after answer read written found →
    (k : ℕ) → query_answer to_utf8 before (length source) ≡ Some k → k ≤ free →
    found ≡ has_malformed (events_of before.grammar (before.held ++ source))
found_with_room {source = source} c k queried fits =
    let empty = c.input_empty (c.enough (length source) k (omega arith) queried fits) in
    let all = c.progress.events [] (λ _. inl refl) in
    let none = empty.2 refl in
    let read = empty.0 in
    grind (arith, all, none, read, c.found_is, append-nil, drop_all, has_malformed-append, has_malformed-shift)

module _ {before : EncoderState} {source : List ℕ} {free : ℕ} {after : EncoderState} {answer : CoderResult} {left bytes : List ℕ} {found : Bool}
    (c : ReplacingEncoderCall before source true free after answer left bytes found) where
  -- what was told now, or is left to tell, is what there is to tell
  unmappable_goes_on : has_unmappable (encoded before source true) ≡ (found || has_unmappable (encoded after left true))
  unmappable_goes_on =
      let all = rw (append-nil source, append-nil left) at (c.gives [] true (λ w. inl (refl, wrote_last true answer w))) in
      rw (all, list_any-append is_unmappable c.out (encoded after left true), ← c.found_is) refl

  -- the same with what was told before
  pub unmappable_after : (told : Bool) {whole : Bool} → (told || has_unmappable (encoded before source true)) ≡ whole →
      ((told || found) || has_unmappable (encoded after left true)) ≡ whole
  unmappable_after told e = grind (arith, unmappable_goes_on)

  -- after the end nothing is left to tell
  pub unmappable_end : answer ≡ InputEmpty → has_unmappable (encoded after left true) ≡ false
  unmappable_end e = grind (arith, end-encoded)
