use Rattle.std.proofs.Common.{arith, length-take}
use Rattle.legacy_exports.proofs.EncodingLaws.{raw_empty, raw_full, raw_marked, raw_lost}
use Rattle.legacy_exports.proofs.calls.replace_unmappable.Goals as goal

pub returns-in-InputEmpty-clause-call : goal.returns-in-InputEmpty-clause-call
returns-in-InputEmpty-clause-call c before text last after left call = raw_empty (rw c.in-InputEmpty.is at call)

pub returns-in-OutputFull-clause-call : goal.returns-in-OutputFull-clause-call
returns-in-OutputFull-clause-call c before text last after left call = raw_full (rw c.in-OutputFull.is at call)

pub returns-in-Some-clause-call : goal.returns-in-Some-clause-call
returns-in-Some-clause-call c before text last after left call = rw c.in-Some.ensures.bytes (raw_marked (rw c.in-Unmappable.is at call))

pub returns-in-None-clause-call : goal.returns-in-None-clause-call
returns-in-None-clause-call c before text last after left call =
    let long = length-take c.args.written c.args.output.now in
    let lost = raw_lost (rw c.in-Unmappable.is at call) (omega (arith, c.in-None.ensures.room, c.requires, long)) in
    rw c.in-None.ensures.bytes lost
