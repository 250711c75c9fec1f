use Rattle.std.proofs.Common.{arith}
use Rattle.legacy_text.proofs.scalar_turns.parts_at.Goals as goal

pub returns-clause-units : goal.returns-clause-units
returns-clause-units c = λ k h. c.loop-k.invariant.3 k (omega arith)
