use Rattle.std.proofs.{Common.{arith}}
use Rattle.legacy_text.proofs.ShortScalars.{scalars_append}
use Rattle.legacy_text.proofs.short_scalars.copy_short_scalars.Goals as goal

pub returns-then-is_ascii-clause-writes : goal.returns-then-is_ascii-clause-writes
returns-then-is_ascii-clause-writes g c = grind (arith, scalars_append c.loop-place.invariant.1 c.in-Some.ensures.turn)

pub loop-place-preserved : goal.loop-place-preserved
loop-place-preserved g c = grind (arith, scalars_append c.loop-place.invariant.1 c.in-Some.ensures.turn)

pub returns-in_default-clause-writes : goal.returns-in_default-clause-writes
returns-in_default-clause-writes g c = rw c.in_default.ensures.before c.loop-place.invariant.1

pub returns-else-dst-at-ge8 : goal.returns-else-dst-at-ge8
returns-else-dst-at-ge8 g c = let i = c.loop-place.invariant in record { fits = omega arith; writes = i.1 }

pub returns-after-loop-place : goal.returns-after-loop-place
returns-after-loop-place g c = let i = c.loop-place.invariant in record { fits = omega arith; writes = i.1 }
