-- What `recode_text` writes.
use Rattle.std.specs.Prelude.{◌≡◌, ℕ, List, Bool, Option}
use Rattle.std.specs.Io.KnownBytes.{Appends}
use Rattle.legacy_base.specs.declared.results.DecodeEvent.{DecodeEvent}
use Rattle.legacy_text.specs.EncodingForm.{Utf8, all_code_units}
use Rattle.legacy_base.specs.States.{DecoderState}
use Rattle.legacy_codecs.specs.Replacing.{replaced_scalars, has_malformed}
use Rattle.legacy_streams.specs.Streams.{AppendsFront, AppendsAtLeast, DecodesPiece, DecodesFront, DecodesAll, DecodesBeginning, DecodesPartly}

-- the text of events in UTF-8, with U+FFFD for each malformed sequence
unfoldable pub text_in_utf8 : List DecodeEvent → List ℕ
text_in_utf8 events = all_code_units Utf8 (replaced_scalars events)

-- ---- one piece of the input

-- The whole piece was decoded, and the text of its events was written. `found`: whether one of them is a malformed
-- sequence.
abbrev pub WritesPiece : DecoderState → List ℕ → Bool → DecoderState → Bool → Option (List ℕ) → Option (List ℕ) → Type 0
WritesPiece before piece last after found old new =
    DecodesPiece before piece last after (λ events. (found ≡ has_malformed events) × Appends old new (text_in_utf8 events))

-- a part of the piece was decoded, and a front of the text of its events was written, which may end inside a scalar
abbrev pub WritesFront : DecoderState → List ℕ → Bool → DecoderState → Option (List ℕ) → Option (List ℕ) → Type 0
WritesFront before piece last after old new = DecodesFront before piece last after (λ events. AppendsFront old new (text_in_utf8 events))

-- ---- the whole input

-- The input was read to its end. The text of all events of the held-back and read bytes was written. `found`: whether
-- one of them is a malformed sequence.
abbrev pub WritesAll : DecoderState → DecoderState → Bool → Option (List ℕ) → Option (List ℕ) → Option (List ℕ) → Option (List ℕ) → Type 0
WritesAll before after found input_old input_new output_old output_new =
    DecodesAll before after input_old input_new (λ events. (found ≡ has_malformed events) × Appends output_old output_new (text_in_utf8 events))

-- some bytes of the input were read and decoded, and the text of their events was written
abbrev pub WritesBeginning : DecoderState → DecoderState → Option (List ℕ) → Option (List ℕ) → Option (List ℕ) → Option (List ℕ) → Type 0
WritesBeginning before after input_old input_new output_old output_new =
    DecodesBeginning before after input_old input_new (λ events. Appends output_old output_new (text_in_utf8 events))

-- Some bytes of the input were read, and a part of them was decoded. A front of the text of its events was written,
-- which may end inside a scalar. The text of all pieces before the last one was written.
abbrev pub WritesPartly : DecoderState → DecoderState → Option (List ℕ) → Option (List ℕ) → Option (List ℕ) → Option (List ℕ) → Type 0
WritesPartly before after input_old input_new output_old output_new =
    DecodesPartly before after input_old input_new (λ events. AppendsAtLeast output_old output_new (text_in_utf8 events))
    (λ events. AppendsFront output_old output_new (text_in_utf8 events))
