-- The text that a decoder gives for a whole input.
use Rattle.std.specs.Prelude.{◌≡◌, ℕ, List, [], ◌++◌, length, Bool, IsTrue}
use Rattle.legacy_text.specs.EncodingForm.{EncodingForm, all_code_units}
use Rattle.legacy_base.specs.Grammar.{events_of}
use Rattle.legacy_base.specs.States.{DecoderState, may_hold, rests}
use Rattle.legacy_codecs.specs.declared.results.CoderResult.TheVariants.{InputEmpty}
use Rattle.legacy_codecs.specs.Replacing.{replaced_scalars, ReplacingDecoderCall}

-- The text of the bytes that a decoder held back and of these, which are the last ones: its characters, with U+FFFD for
-- each malformed sequence.
unfoldable pub text_of : DecoderState → List ℕ → List ℕ
text_of state bytes = replaced_scalars (events_of state.grammar (state.held ++ bytes))

-- the code units of that text in an encoding form
abbrev pub text_units : EncodingForm → DecoderState → List ℕ → List ℕ
text_units form state bytes = all_code_units form (text_of state bytes)

-- The decoder holds back only bytes that its codec may hold back, and no scalar.
abbrev pub IsSettled : DecoderState → Type 0
IsSettled state = IsTrue (may_hold state.grammar state.held) × IsTrue (rests state.grammar state.held)

-- What was written for a piece, and then the text of any later bytes, is the text of the piece and those bytes. No
-- bytes come after the last piece.
abbrev pub TextGoesOn : EncodingForm → Bool → DecoderState → List ℕ → DecoderState → List ℕ → Type 0
TextGoesOn form last before piece after written =
    (later : List ℕ) → (IsTrue last → later ≡ []) →
    text_units form before (piece ++ later) ≡ written ++ text_units form after later

-- A call with replacement, and nothing else, read all these bytes, wrote these code units, and left the decoder so. So the
-- codec, its lists and its byte order stay, and nothing else was passed to the decoder.
abbrev pub IsReadWhole : EncodingForm → Bool → ℕ → DecoderState → List ℕ → DecoderState → List ℕ → Type 0
IsReadWhole form last free before source after written =
    (found : Bool) × ReplacingDecoderCall form before source last free after InputEmpty (length source) written found
