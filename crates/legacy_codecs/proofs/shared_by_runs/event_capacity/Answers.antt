use Rattle.std.proofs.{Common.{◌≡◌, [], drop, sum, arith}, Math.ListN.drop_of_length-le}
use Rattle.legacy_codecs.proofs.shared_by_runs.event_capacity.Goals as goal

pub returns : goal.returns
returns c =
    let none : drop c.loop-length.length-index c.args.lengths.now ≡ [] = drop_of_length-le c.args.lengths.now c.loop-length-test.false in
    let all = rw none at c.loop-length.invariant in
    let total : c.loop-length.total ≡ sum c.args.lengths.now = omega (arith, all) in
    rw total at c.checked_add-2.ensures
