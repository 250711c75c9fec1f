use Rattle.legacy_single_byte.proofs.SingleByteAhead.{byte_scalars}
use Rattle.legacy_single_byte.proofs.single_byte.scalars.ByteScalars.entries.Goals as goal

pub returns-clause-all : goal.returns-clause-all
returns-clause-all c =
    let scalars = c.args.self.now in
    byte_scalars scalars.table.now scalars.entries scalars.entry_count scalars.same
