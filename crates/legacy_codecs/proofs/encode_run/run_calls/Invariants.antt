use Rattle.std.proofs.Common.{◌≤◌, ◌+◌, length, map, vec_len, All, false}
use Rattle.std.specs.Prelude.{vec_capacity}
use Rattle.legacy_codecs.specs.{Pieces.place_before, EncodeRuns.EncodeReaches}
use Rattle.legacy_codecs.proofs.RunDrivers.{room_from}
use Rattle.legacy_codecs.proofs.encode_run.run_calls.Given as goal

abbrev pub invariant-loop-calls : goal.invariant-loop-calls
invariant-loop-calls g l = record {
  reaches : EncodeReaches (place_before (g.E.RawEncoder.state l.fn.encoder) (map g.T.Piece.items l.pieces)) l.lengths l.calls l.events.items false
      (record { state = g.E.RawEncoder.state l.encoder; piece = g.T.Cursor.Source.left l.unread; later = map g.T.Piece.items l.later });
  room : vec_len l.events + room_from l.lengths l.calls ≤ vec_capacity l.events;
  output : All (λ n. n ≤ length l.output) l.lengths;
}
