use Rattle.std.proofs.Common.{◌≤◌, length, take}
use Rattle.legacy_exports.specs.{Decoding.DecodesSource, Repeated.Repeats}
use Rattle.legacy_exports.proofs.decode.ReadingRefSliceU8DecoderTask.run.Given as goal

-- the conversions up to now
abbrev pub invariant-loop-time : goal.invariant-loop-time
invariant-loop-time g l = record {
  conversions : Repeats (DecodesSource g.C.DecoderCalls.kind g.U.CodeUnit.form l.self.source.now (length l.fn.output)) (g.D.RawDecoder.state l.fn.decoder)
      l._time
      (g.D.RawDecoder.state l.decoder)
      (g.U.CodeUnit.units (take l.written l.output));
  within : l.written ≤ length l.output;
}
