use Rattle.std.proofs.Common.{◌≡◌, ◌≤◌, ◌++◌, ◌||◌, true, length}
use denote.{Text.Utf8, Shadow.shadow}
use Rattle.std.specs.Str.{chars}
use Rattle.legacy_base.specs.Encoders.{encoded}
use Rattle.legacy_codecs.specs.References.{referenced_bytes, has_unmappable}
use Rattle.legacy_encodings.proofs.told.encode_told.Given as goal

abbrev pub invariant-calls : goal.invariant-calls
invariant-calls g l =
    shadow (Utf8 l.rest)
    × (l.bytes.items ++ referenced_bytes (encoded (g.E.RawEncoder.state l.encoder) (chars l.rest) true)
    ≡ referenced_bytes (encoded (g.E.RawEncoder.state l.fn.encoder) (chars l.fn.text) true))
    × (14 ≤ length l.output)
    × ((l.replaced || has_unmappable (encoded (g.E.RawEncoder.state l.encoder) (chars l.rest) true))
    ≡ has_unmappable (encoded (g.E.RawEncoder.state l.fn.encoder) (chars l.fn.text) true))

abbrev pub decreases-calls : goal.decreases-calls
decreases-calls g l = length (referenced_bytes (encoded (g.E.RawEncoder.state l.encoder) (chars l.rest) true))
