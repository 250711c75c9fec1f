use Rattle.std.proofs.Common.{arith}
use Rattle.legacy_single_byte.proofs.SingleByteAhead.{entry_yields}
use Rattle.legacy_single_byte.proofs.single_byte.scalars.ByteScalars.scalar.Goals as goal

pub returns-clause-single : goal.returns-clause-single
returns-clause-single c =
    entry_yields c.args.self.now.table.now c.args.byte c.from_u32_unchecked.result (omega arith) (grind (arith, c.args.self.now.same c.args.byte)) (grind arith)
