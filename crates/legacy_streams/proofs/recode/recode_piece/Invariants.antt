use Rattle.std.proofs.Common.{◌++◌, drop, length}
use Rattle.legacy_base.specs.Grammar.{events_of}
use Rattle.legacy_streams.specs.LineBuffers.{line_bytes}
use Rattle.legacy_streams.proofs.PieceUnderWay.{IsPieceUnderWay}
use Rattle.legacy_streams.proofs.recode.recode_piece.Given as goal

abbrev pub invariant-calls : goal.invariant-calls
invariant-calls g l = IsPieceUnderWay (g.D.RawDecoder.state l.fn.decoder) l.piece l.last l.total (g.D.RawDecoder.state l.decoder) l.offset
    (line_bytes l.lines) (g.W.Write.contents l.fn.output) (g.W.Write.contents l.output)

abbrev pub decreases-calls : goal.decreases-calls
decreases-calls g l = let s = g.D.RawDecoder.state l.decoder in length (events_of s.grammar (s.held ++ drop l.offset l.piece))
