use Rattle.std.proofs.Common.{◌≤◌, ◌+◌, length, vec_len, All, false}
use Rattle.std.specs.Prelude.{vec_capacity}
use Rattle.legacy_codecs.specs.Pieces.{contents_of, place_before}
use Rattle.legacy_codecs.proofs.{RunDrivers.room_from, RunSteps.Running}
use Rattle.legacy_codecs.proofs.decode_run.run_calls.Given as goal

abbrev pub invariant-loop-calls : goal.invariant-loop-calls
invariant-loop-calls g l = record {
  running : Running g.F.OutputForm.form (place_before (g.D.RawDecoder.state l.fn.decoder) (contents_of l.pieces)) l.lengths l.calls l.events.items l.total false
      (record { state = g.D.RawDecoder.state l.decoder; piece = l.unread; later = contents_of l.later });
  room : vec_len l.events + room_from l.lengths l.calls ≤ vec_capacity l.events;
  buffer : All (λ n. n ≤ length l.buffer) l.lengths;
}
