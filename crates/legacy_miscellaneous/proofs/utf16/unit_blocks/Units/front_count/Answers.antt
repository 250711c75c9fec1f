use Rattle.std.{proofs.Common.{arith}}
use Rattle.legacy_miscellaneous.proofs.utf16.unit_blocks.Units.front_count.Goals as goal

pub returns-clause-scalars : goal.returns-clause-scalars
returns-clause-scalars c k h = rw (c.eight_units.ensures k (omega arith)) at (c.scalar_count.ensures.scalars k h)
