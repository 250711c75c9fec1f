-- What a run over an input in pieces returns, of its calls.
use Rattle.std.proofs.Common.{ℕ, List}
use Rattle.legacy_text.specs.EncodingForm.{EncodingForm}
use Rattle.legacy_tables.specs.Unicode.{AreBytes, AreScalars}
use Rattle.legacy_base.specs.{Encoders.EncoderState, States.DecoderState}
use Rattle.legacy_codecs.specs.declared.{decode_run.DecodeRun.DecodeRun, encode_run.EncodeRun.EncodeRun}
use Rattle.legacy_codecs.specs.{EncodeRuns.IsEncodeRun, Pieces.{joined, place_before}, Runs.IsRun}
use Rattle.legacy_codecs.specs.RunResults.{RunDecodes, RunEncodes}
use Rattle.legacy_codecs.proofs.{AmpleLengths.is_finished, AmpleOutputs.encode_is_finished, EncodeRunEvents.{is_encode_beginning, no_end_left}}
use Rattle.legacy_codecs.proofs.{RoundTripRuns.run_comes_back, RunEvents.{is_beginning, none_left}, StandardRuns.{run_is_decoded, run_is_encoded}}

pub run_decodes : {form : EncodingForm} {before : DecoderState} {pieces : List (List ℕ)} {lengths : List ℕ} {run : DecodeRun} {after : DecoderState} →
    AreBytes (joined pieces) → IsRun form (place_before before pieces) lengths run.calls run.finished run.events.items after →
    RunDecodes form before pieces lengths run after
run_decodes {before = before} {pieces = pieces} bytes calls = record {
  calls = calls;
  beginning = is_beginning calls;
  standard = run_is_decoded before pieces bytes (is_beginning calls);
  none_left = none_left calls;
  finishes = is_finished before pieces calls;
}

pub run_encodes : {before : EncoderState} {pieces : List (List ℕ)} {lengths : List ℕ} {run : EncodeRun} {after : EncoderState} →
    AreScalars (joined pieces) → IsEncodeRun (place_before before pieces) lengths run.calls run.finished run.events.items after →
    RunEncodes before pieces lengths run after
run_encodes {before = before} {pieces = pieces} scalars calls = record {
  calls = calls;
  beginning = is_encode_beginning before pieces calls;
  standard = run_is_encoded before pieces scalars (is_encode_beginning before pieces calls);
  none_left = no_end_left calls;
  finishes = encode_is_finished before pieces calls;
  comes_back = run_comes_back before pieces calls;
}
