use Rattle.std.proofs.Common.{arith}
use Rattle.legacy_text.proofs.VectorUnits.{whole_steps}
use Rattle.legacy_text.proofs.destination.Destination.put_eight.Goals as goal

pub returns : goal.returns
returns g c = grind (arith, whole_steps)
