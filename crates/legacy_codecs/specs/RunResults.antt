-- What a run over an input in pieces returns.
use Rattle.std.specs.Prelude.{ℕ, List, IsTrue}
use Rattle.legacy_text.specs.EncodingForm.{EncodingForm}
use Rattle.legacy_base.specs.Encoders.{EncoderState}
use Rattle.legacy_base.specs.States.{DecoderState}
use Rattle.legacy_codecs.specs.declared.decode_run.DecodeRun.{DecodeRun}
use Rattle.legacy_codecs.specs.declared.encode_run.EncodeRun.{EncodeRun}
use Rattle.legacy_codecs.specs.EncodeRuns.{IsEncodeRun, IsEncodeBeginning, HasNoEnd, HasAmpleOutputs}
use Rattle.legacy_codecs.specs.Pieces.{place_before}
use Rattle.legacy_codecs.specs.RoundTripRuns.{RunComesBack}
use Rattle.legacy_codecs.specs.Runs.{IsRun, IsBeginning, HasNoneLeft, HasAmpleLengths}
use Rattle.legacy_codecs.specs.StandardRuns.{RunIsDecodedByHandler, RunIsEncodedByHandler}

-- the result of a run of a decoder over these pieces, from the state `before` to the state `after`
pub record RunDecodes (form : EncodingForm) (before : DecoderState) (pieces : List (List ℕ)) (lengths : List ℕ) (run : DecodeRun)
    (after : DecoderState) : Type 0 where
  -- it is that of a run, which ends in the decoder's new state
  pub calls : IsRun form (place_before before pieces) lengths run.calls run.finished run.events.items after
  -- the events are a prefix of those of all pieces, and all of them if the run is finished
  pub beginning : IsBeginning before pieces run.finished run.events.items
  -- if the decoder was new and the run is finished, the Standard's handler gives these events
  pub standard : RunIsDecodedByHandler before pieces run.finished run.events.items
  -- if the run is finished, the decoder holds back nothing that has an event
  pub none_left : IsTrue run.finished → HasNoneLeft after
  -- the run is finished if there are enough outputs, each with room for any scalar
  pub finishes : HasAmpleLengths form before pieces lengths → IsTrue run.finished

-- the result of a run of an encoder over these pieces, from the state `before` to the state `after`
pub record RunEncodes (before : EncoderState) (pieces : List (List ℕ)) (lengths : List ℕ) (run : EncodeRun) (after : EncoderState) : Type 0 where
  -- it is that of a run, which ends in the encoder's new state
  pub calls : IsEncodeRun (place_before before pieces) lengths run.calls run.finished run.events.items after
  -- the events are a prefix of those of all pieces, and all of them if the run is finished
  pub beginning : IsEncodeBeginning before pieces run.finished run.events.items
  -- if the encoder was new, its ranges are accepted, no pointer is missing and the run is finished, the Standard's handler
  -- gives these events
  pub standard : RunIsEncodedByHandler before pieces run.finished run.events.items
  -- if the run is finished, the encoder has no end left to write
  pub none_left : IsTrue run.finished → HasNoEnd after
  -- the run is finished if there are enough outputs, each with room for any act
  pub finishes : HasAmpleOutputs before pieces lengths → IsTrue run.finished
  -- if the run is finished and the encoder was new, the bytes decode to the text
  pub comes_back : RunComesBack before pieces run.finished run.events.items
