use Rattle.std.proofs.Common.{◌≡◌, ◌≢◌, ◌+◌, ◌-◌, arith}
use Rattle.legacy_tables.proofs.tables.ranges.Ranges.pointer_in.Goals as goal

pub returns-clause-given : goal.returns-clause-given
returns-clause-given c =
    let at = c.in_ok-at.ensures.among in
    let number = c.from.ensures in
    let same : c.in_ok-at.at ≡ c.args.scalar - c.args.part.scalar = omega (arith, at.0, number) in
    let other : c.args.part.first + (c.args.scalar - c.args.part.scalar) ≢ 7457 = λ e. c.if-pointer.false (omega (arith, same, e)) in
    rw same (c.requires.part.pointers c.args.scalar (omega (arith, at.0, number)) (omega (arith, at.0, at.1, number)) c.requires.free other)
