use Rattle.std.proofs.Common.{arith, take, length-take}
use Rattle.legacy_exports.proofs.DecodingLaws.{raw_empty, raw_full, raw_malformed, raw_roomless}
use Rattle.legacy_exports.proofs.calls.replace_malformed.Goals as goal

pub returns-in-InputEmpty-clause-call : goal.returns-in-InputEmpty-clause-call
returns-in-InputEmpty-clause-call g c before source last after read call = raw_empty call.2 (rw c.in-InputEmpty.is at call.1)

pub returns-in-OutputFull-clause-call : goal.returns-in-OutputFull-clause-call
returns-in-OutputFull-clause-call g c before source last after read call = raw_full call.2 (rw c.in-OutputFull.is at call.1)

pub returns-in-Some-clause-call : goal.returns-in-Some-clause-call
returns-in-Some-clause-call g c before source last after read call =
    raw_malformed _ call.2 c.in-Some.ensures.text (rw c.in-Malformed.is at call.1)

pub returns-in-None-clause-call : goal.returns-in-None-clause-call
returns-in-None-clause-call g c before source last after read call =
    let done = take c.args.written c.args.output.now in
    let long = g.met.U.CodeUnit.units_length done in
    let kept = length-take c.args.written c.args.output.now in
    absurd (raw_roomless call.2 (rw c.in-Malformed.is at call.1) (omega (arith, c.in-None.ensures.room, c.requires, long, kept)))
