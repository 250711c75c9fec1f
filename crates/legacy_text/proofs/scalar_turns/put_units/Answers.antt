use Rattle.std.proofs.Common.{◌+◌, arith}
use Rattle.legacy_text.{specs.ScalarTurns.IsUnitAt, proofs.ScalarTurns.stored_at}
use Rattle.legacy_text.proofs.scalar_turns.put_units.Goals as goal

pub returns-clause-units : goal.returns-clause-units
returns-clause-units c =
    let p = c.parts_at.ensures in
    let j = c.joined.ensures in
    stored_at (λ k unit. IsUnitAt c.args.bytes.now (c.args.place + k) unit) c.args.all.now c.joined.result.0 c.joined.result.1
    c.args.at j.front j.back c.requires.room
    (λ k h. rw (j.first k h) (p.units k (omega arith))) (λ k h. rw (j.others k h) (p.units (8 + k) (omega arith)))
