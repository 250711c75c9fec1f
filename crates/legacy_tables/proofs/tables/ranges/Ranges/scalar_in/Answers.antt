use Rattle.std.proofs.Common.{arith}
use Rattle.legacy_tables.proofs.tables.ranges.Ranges.scalar_in.Goals as goal

pub from_u32_unchecked-requires : goal.from_u32_unchecked-requires
from_u32_unchecked-requires c = grind (arith, c.requires.part.scalars c.args.pointer)
