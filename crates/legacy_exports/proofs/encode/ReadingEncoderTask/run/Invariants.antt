use Rattle.std.proofs.Common.{◌≤◌, length, take}
use Rattle.legacy_exports.specs.{Encoding.ConvertsText, Repeated.Repeats}
use Rattle.legacy_exports.proofs.encode.ReadingEncoderTask.run.Given as goal

-- the conversions up to now
abbrev pub invariant-loop-time : goal.invariant-loop-time
invariant-loop-time g l = record {
  conversions : Repeats (ConvertsText g.C.EncoderCalls.kind (g.T.Text.scalars l.self.source) (length l.fn.output)) (g.E.RawEncoder.state l.fn.encoder) l._time
      (g.E.RawEncoder.state l.encoder)
      (take l.written l.output);
  within : l.written ≤ length l.output;
}
