use Rattle.std.proofs.Common.{◌++◌, length}
use Rattle.std.specs.Prelude.{vec_len}
use Rattle.legacy_base.specs.Grammar.{events_of}
use Rattle.legacy_codecs.proofs.MalformedSequences.{Finds}
use Rattle.legacy_codecs.proofs.malformed.malformed_sequences.Given as goal

abbrev pub invariant-calls : goal.invariant-calls
invariant-calls g l = Finds (g.D.RawDecoder.state l.fn.decoder) l.fn.input (vec_len l.text) (g.D.RawDecoder.state l.decoder) l.rest l.read l.found.items

abbrev pub decreases-calls : goal.decreases-calls
decreases-calls g l = let s = g.D.RawDecoder.state l.decoder in length (events_of s.grammar (s.held ++ l.rest))
