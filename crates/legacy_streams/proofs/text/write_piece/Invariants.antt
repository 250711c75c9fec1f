use Rattle.std.proofs.Common.{◌++◌, drop, length}
use Rattle.legacy_base.specs.Grammar.{events_of}
use Rattle.legacy_streams.proofs.TextUnderWay.{TextUnderWay}
use Rattle.legacy_streams.proofs.text.write_piece.Given as goal

abbrev pub invariant-calls : goal.invariant-calls
invariant-calls g l = TextUnderWay (g.D.RawDecoder.state l.fn.decoder) l.piece l.last (g.D.RawDecoder.state l.decoder) l.offset l.replaced
    (g.W.Write.contents l.fn.output) (g.W.Write.contents l.output)

abbrev pub decreases-calls : goal.decreases-calls
decreases-calls g l = let s = g.D.RawDecoder.state l.decoder in length (events_of s.grammar (s.held ++ drop l.offset l.piece))
