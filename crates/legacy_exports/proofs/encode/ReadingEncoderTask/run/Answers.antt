use Rattle.std.proofs.Common.{arith}
use Rattle.legacy_exports.specs.Repeated.Repeats.{none, one_more}
use Rattle.legacy_exports.proofs.encode.ReadingEncoderTask.run.Goals as goal

pub loop-time-init : goal.loop-time-init
loop-time-init g c = record { conversions = none; within = omega arith }

pub loop-time-preserved : goal.loop-time-preserved
loop-time-preserved g c =
    let last = rw c.loop-time.auto.output at c.encode_once-written.ensures.bytes in
    record { conversions = one_more _ _ _ c.loop-time.invariant.conversions _ _ last; within = c.encode_once-written.ensures.within }
