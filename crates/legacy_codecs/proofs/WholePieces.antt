-- A call with replacement that read its whole source gave the text of it.
use Rattle.std.proofs.Common.{◌≡◌, ◌∙◌, ℕ, List, [], ◌∷◌, ◌++◌, length, refl, sym, ap, arith, take, ◌≤◌, Bool, true, IsTrue, All, Some, append-nil}
use Rattle.std.proofs.{lemmas.List.{drop_all, take-take, take-append-le}, lemmas.List.Elements.{All-head, All-tail}, lemmas.Str.chars_from_encodes}
use Rattle.std.specs.{Char.IsScalar, Str.{chars, IsUtf8}}
use lib.Utf8.{encodes, scalars}
use Rattle.legacy_text.specs.EncodingForm.{EncodingForm, Utf8, all_code_units}
use Rattle.legacy_base.specs.{Grammar.events_of, Lengths.{query_answer, to_utf8}, States.DecoderState}
use Rattle.legacy_text.proofs.{CodeUnits.all_code_units-append, Texts.encodes-code_units}
use Rattle.legacy_codecs.specs.{declared.results.CoderResult.CoderResult, declared.results.CoderResult.TheVariants.InputEmpty, Replacing.replaced_scalars}
use Rattle.legacy_codecs.specs.{Replacing.ReplacingDecoderCall, WholeTexts.{text_of, IsReadWhole, TextGoesOn}}
use Rattle.legacy_codecs.proofs.{Replacements.end_found-last, Replaced.{replaced-append, replaced-shift}}

-- ---- scalars in UTF-8

all_scalars : (cs : List ℕ) → All IsScalar cs → scalars cs ≡ true
all_scalars [] h = refl
all_scalars (c ∷ cs) h = rw (All-head IsScalar c cs h) (all_scalars cs (All-tail IsScalar c cs h))

-- bytes that are those of scalars are UTF-8, and have these as characters
pub utf8_of : (bytes cs : List ℕ) → All IsScalar cs → bytes ≡ all_code_units Utf8 cs → IsUtf8 bytes × (chars bytes ≡ cs)
utf8_of bytes cs h e =
    let spells : encodes cs ≡ bytes = encodes-code_units cs ∙ sym e in
    let is : IsUtf8 bytes = (cs, (all_scalars cs h, spells)) in
    (is, sym (chars_from_encodes cs bytes is spells))

-- ---- a call

-- what was written is at the front of the buffer
pub front_of_buffer : (written count : ℕ) (output others : List ℕ) → written ≤ length output → length output ≡ count →
    take written (take count (output ++ others)) ≡ take written output
front_of_buffer written count output others h e = take-take written count (output ++ others) (omega (arith, h, e)) ∙ take-append-le written output others h

module _ {form : EncodingForm} {before : DecoderState} {source : List ℕ} {last : Bool} {free : ℕ} {after : DecoderState} {answer : CoderResult} {read : ℕ}
    {written : List ℕ} {found : Bool}
    (c : ReplacingDecoderCall form before source last free after answer read written found) (empty : answer ≡ InputEmpty) where
  scalars_go_on : (later : List ℕ) → (IsTrue last → later ≡ []) → text_of before (source ++ later) ≡ replaced_scalars c.out ++ text_of after later
  unfolding text_of
  scalars_go_on later h = grind (arith, drop_all, end_found-last, replaced-append, replaced-shift)

  pub read_whole : IsReadWhole form last free before source after written
  read_whole = let all = (c.input_empty empty).0 in (found, rw (empty, all) at c)

  pub text_goes_on : TextGoesOn form last before source after written
  text_goes_on later h = grind (arith, scalars_go_on, all_code_units-append)

  -- after the last piece no text is left
  pub none_left : IsTrue last → text_of after [] ≡ []
  unfolding text_of
  none_left is_last = ap replaced_scalars (ap (events_of after.grammar) (append-nil after.held) ∙ (c.input_empty empty).2 is_last)

  whole_text : IsTrue last → text_of before source ≡ replaced_scalars c.out
  whole_text is_last = grind (arith, append-nil, scalars_go_on, none_left)

-- a last call into UTF-8 that had the queried length free wrote the text of its source, and no text is left
pub whole_with_room : {before : DecoderState} {source : List ℕ} {free : ℕ} {after : DecoderState} {answer : CoderResult} {read : ℕ} {written : List ℕ}
    {found : Bool} →
    ReplacingDecoderCall Utf8 before source true free after answer read written found →
    (k : ℕ) → query_answer to_utf8 before (length source) ≡ Some k → k ≤ free →
    IsUtf8 written × (chars written ≡ text_of before source) × (text_of after [] ≡ [])
    × (n : ℕ) × IsReadWhole Utf8 true n before source after written
whole_with_room {source = source} {free = free} {written = written} c k queried fits =
    let empty = c.enough (length source) k (omega arith) queried fits in
    let utf8 = utf8_of written (replaced_scalars c.out) c.scalar c.text in
    (utf8.0, utf8.1 ∙ sym (whole_text c empty refl), none_left c empty refl, free, read_whole c empty)
