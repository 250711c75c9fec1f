-- Finished runs give what the Standard's decoders and encoders give.
use Rattle.std.specs.Prelude.{◌≡◌, ℕ, List, Bool, IsTrue}
use Rattle.legacy_base.specs.declared.results.DecodeEvent.{DecodeEvent}
use Rattle.legacy_base.specs.declared.results.EncodeEvent.{EncodeEvent}
use Rattle.legacy_tables.specs.Unicode.{AreBytes, AreScalars}
use Rattle.legacy_base.specs.States.{DecoderState, new_state}
use Rattle.legacy_base.specs.Encoders.{Codec, EncoderState, new_encoder}
use Rattle.legacy_standard.specs.DecoderLaw.{Decoder, decoder_grammar, HandlerDecodes}
use Rattle.legacy_standard.specs.EncoderLaw.{HasAcceptedRanges, HasPointers, HandlerEncodes}
use Rattle.legacy_codecs.specs.Pieces.{joined}
use Rattle.legacy_codecs.specs.Runs.{FinishedRun}
use Rattle.legacy_codecs.specs.EncodeRuns.{FinishedEncodeRun}

-- ---- the events of one run

-- If the decoder was new and the run is finished, its events are what the handler of the Standard's decoder gives for
-- all pieces together.
abbrev pub RunIsDecodedByHandler : DecoderState → List (List ℕ) → Bool → List DecodeEvent → Type 0
RunIsDecodedByHandler before pieces finished answered =
    (decoder : Decoder) → before ≡ new_state (decoder_grammar decoder) → IsTrue finished →
    HandlerDecodes decoder (joined pieces) answered

-- Let the encoder be new, its ranges accepted, no pointer missing, and the run finished. Then its events are what the
-- handler of the Standard's encoder gives for all pieces together.
abbrev pub RunIsEncodedByHandler : EncoderState → List (List ℕ) → Bool → List EncodeEvent → Type 0
RunIsEncodedByHandler before pieces finished answered =
    (codec : Codec) → HasAcceptedRanges codec → HasPointers codec → before ≡ new_encoder codec →
    IsTrue finished →
    HandlerEncodes codec (joined pieces) answered

-- ---- any finished run

-- the same for any finished run of a new decoder over these bytes, however they are cut
abbrev pub RunsAreDecodedByHandlers : Type 0
RunsAreDecodedByHandlers =
    (decoder : Decoder) (bytes : List ℕ) → AreBytes bytes →
    (answered : List DecodeEvent) → FinishedRun (new_state (decoder_grammar decoder)) bytes answered →
    HandlerDecodes decoder bytes answered

-- the same for any finished run of a new encoder over a text
abbrev pub RunsAreEncodedByHandlers : Type 0
RunsAreEncodedByHandlers =
    (codec : Codec) → HasAcceptedRanges codec → HasPointers codec →
    (text : List ℕ) → AreScalars text →
    (answered : List EncodeEvent) → FinishedEncodeRun (new_encoder codec) text answered →
    HandlerEncodes codec text answered
