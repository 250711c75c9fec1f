use Rattle.std.proofs.Common.{ℕ, List, Bool, Result, Ok, Err, Some, MatchResult, ◌≡◌, string_bytes, refl}
use Rattle.std.proofs.lemmas.Str.{IsUtf8-string_bytes}
use Rattle.std.specs.Str.{chars, IsUtf8}
use Rattle.legacy_base.specs.Encoders.{EncoderState}
use Rattle.legacy_codecs.specs.declared.whole.SizedError.TheVariants.{Memory}
use Rattle.legacy_encodings.specs.declared.registry.{Coders.Coders, TranscodeError.TranscodeError, Transcoded.Transcoded}
use Rattle.legacy_encodings.specs.declared.registry.TranscodeError.TheVariants.{To}
use Rattle.legacy_encodings.specs.declared.registry.RegistryError.TheVariants.{Sized}
use Rattle.legacy_encodings.specs.Registries.{bytes_by, replaced_by, IsEncoderOf, IsText, IsTranscoded, IsTranscodeError}
use Rattle.legacy_encodings.proofs.registry.Coders.transcode.Goals as goal

-- the text of the input was encoded, or not
encoded_of : {coders : Coders} (from to input : List ℕ) {malformed : Bool} (text : List ℕ) (state : EncoderState) → IsUtf8 text →
    IsEncoderOf coders to (Some state) → IsText coders from input (chars text) malformed → (result : Result Transcoded TranscodeError) →
    MatchResult result
    (λ t. (t.bytes.items ≡ bytes_by (Some state) text) × (t.malformed ≡ malformed) × (t.unmappable ≡ replaced_by (Some state) text))
    (λ error. error ≡ To (Sized Memory)) →
    MatchResult result (λ t. IsTranscoded coders from to input t.bytes.items t.malformed t.unmappable) (λ error. IsTranscodeError coders from to input error)
encoded_of from to input text state utf8 encoder decoded (Ok t) is = record {
  text = text;
  utf8 = utf8;
  decoded = rw is.1 decoded;
  state = state;
  encoder = encoder;
  encoded = is.0;
  told = is.2;
}
encoded_of from to input text state utf8 encoder decoded (Err error) is = rw is ((state, encoder), (chars text, (_, decoded)))

pub returns-in-Ok : goal.returns-in-Ok
returns-in-Ok c =
    let text = c.in-Ok.decoded.text in
    encoded_of c.args.from.now c.args.to.now c.args.input.now (string_bytes text) _ (IsUtf8-string_bytes text) (rw c.in-Ok-Some.field-0-is at c.in-Ok-Some.ensures) c.in-Ok.ensures _
    c.encode_decoded.ensures
