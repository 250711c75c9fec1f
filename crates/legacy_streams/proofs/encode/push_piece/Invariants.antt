use Rattle.std.proofs.Common.{◌-◌, length}
use Rattle.legacy_streams.specs.Waiting.{waiting_bytes}
use Rattle.legacy_streams.proofs.EncodingUnderWay.{PieceUnderWay}
use Rattle.legacy_streams.proofs.encode.push_piece.Given as goal

abbrev pub invariant-chunks : goal.invariant-chunks
invariant-chunks g l = PieceUnderWay (g.E.RawEncoder.state l.fn.encoder) l.piece (g.E.RawEncoder.state l.encoder) l.passed
    (waiting_bytes l.encoded) (g.W.Write.contents l.fn.output) (g.W.Write.contents l.output)

abbrev pub decreases-chunks : goal.decreases-chunks
decreases-chunks g l = length l.piece - l.passed
