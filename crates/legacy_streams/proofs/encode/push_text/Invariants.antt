use Rattle.std.proofs.Common.{length}
use denote.{Text.Utf8, Shadow.shadow}
use Rattle.std.specs.Str.{chars}
use Rattle.legacy_base.specs.Encoders.{encoded}
use Rattle.legacy_codecs.specs.References.{referenced_bytes}
use Rattle.legacy_streams.specs.{TextEncoding.EncodesUpTo, Waiting.waiting_bytes}
use Rattle.legacy_streams.proofs.encode.push_text.Given as goal

abbrev pub invariant-calls : goal.invariant-calls
invariant-calls g l =
    shadow (Utf8 l.rest)
    × EncodesUpTo (g.E.RawEncoder.state l.fn.encoder) (chars l.fn.text) l.last (g.E.RawEncoder.state l.encoder) (chars l.rest)
    (waiting_bytes l.fn.encoded) (waiting_bytes l.encoded) (g.W.Write.contents l.fn.output) (g.W.Write.contents l.output)

abbrev pub decreases-calls : goal.decreases-calls
decreases-calls g l = length (referenced_bytes (encoded (g.E.RawEncoder.state l.encoder) (chars l.rest) l.last))
