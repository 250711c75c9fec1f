use Rattle.std.proofs.Common.{◌≡◌, ◌↔◌, ◌≤◌, ◌+◌, ◌++◌, [], length, take, true, false, IsTrue}
use Rattle.legacy_base.specs.Encoders.{encoded}
use Rattle.legacy_exports.specs.Encoding.{EncodesTo}
use Rattle.legacy_exports.proofs.encode.encode_once.Given as goal

-- what was read up to now was encoded, and its bytes are at the beginning of the output
abbrev pub invariant-pieces : goal.invariant-pieces
invariant-pieces g l = record {
  encodes : EncodesTo g.C.EncoderCalls.kind false (g.E.RawEncoder.state l.fn.encoder) (g.T.Text.scalars l.reading.source) (g.E.RawEncoder.state l.encoder)
      (g.T.Text.scalars l.unread ++ g.T.Text.scalars l.later)
      (take l.written l.output)
      [];
  within : l.written ≤ length l.output;
  is_over : IsTrue l.last ↔ (g.T.Text.scalars l.later ≡ []);
}

abbrev pub decreases-pieces : goal.decreases-pieces
decreases-pieces g l =
    length (encoded (g.E.RawEncoder.state l.encoder) (g.T.Text.scalars l.unread ++ g.T.Text.scalars l.later) true) + length (g.T.Text.scalars l.later)
