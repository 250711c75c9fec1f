use Rattle.std.proofs.Common.{◌≡◌, ◌++◌, drop, length}
use Rattle.legacy_base.specs.Grammar.{events_of}
use Rattle.legacy_codecs.proofs.Replacements.{Replaces}
use Rattle.legacy_codecs.proofs.replacing.decode_replacing.Given as goal

abbrev pub invariant-calls : goal.invariant-calls
invariant-calls g l = record {
  replaces : Replaces g.T.Destination.form (g.D.RawDecoder.state l.fn.decoder) l.src l.last (g.T.Destination.room l.fn.dst)
      (g.D.RawDecoder.state l.decoder) l.read l.replaced
      (g.T.Destination.contents l.fn.dst) (g.T.Destination.contents l.dst) (g.T.Destination.room l.dst);
  loan : g.T.Destination.loan l.dst ≡ g.T.Destination.loan l.fn.dst;
}

abbrev pub decreases-calls : goal.decreases-calls
decreases-calls g l = let s = g.D.RawDecoder.state l.decoder in length (events_of s.grammar (s.held ++ drop l.read l.src))
