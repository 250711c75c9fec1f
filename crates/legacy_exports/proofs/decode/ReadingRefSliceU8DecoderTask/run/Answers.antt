use Rattle.std.proofs.{Common.{[], arith}, lemmas.List.nil_from_length}
use Rattle.legacy_exports.specs.Repeated.Repeats.{none, one_more}
use Rattle.legacy_exports.proofs.decode.ReadingRefSliceU8DecoderTask.run.Goals as goal

pub loop-time-init : goal.loop-time-init
loop-time-init g c = record {
  conversions = rw (nil_from_length (g.U.CodeUnit.units []) (g.met.U.CodeUnit.units_length [])) none;
  within = omega arith;
}

pub loop-time-preserved : goal.loop-time-preserved
loop-time-preserved g c =
    let last = rw c.loop-time.auto.output at c.decode_once-written.ensures.text in
    record { conversions = one_more _ _ _ c.loop-time.invariant.conversions _ _ last; within = c.decode_once-written.ensures.within }
