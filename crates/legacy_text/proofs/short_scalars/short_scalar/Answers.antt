use Rattle.std.proofs.Common.{arith}
use Rattle.legacy_text.proofs.ShortScalars.{reads_ascii, reads_pair}
use Rattle.legacy_text.proofs.short_scalars.short_scalar.Goals as goal

pub returns-clause-scalar : goal.returns-clause-scalar
returns-clause-scalar c = λ u short.
    grind (arith, reads_ascii c.args.bytes.now c.args.place (omega arith) u, reads_pair c.args.bytes.now c.args.place (omega arith) u)
