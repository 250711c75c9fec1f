use Rattle.std.proofs.Common.{arith}
use Rattle.legacy_text.proofs.VectorUnits.{ascii_steps}
use Rattle.legacy_text.proofs.destination.Destination.put_block.Goals as goal

pub returns : goal.returns
returns g c = grind (arith, ascii_steps)

pub put-requires : goal.put-requires
put-requires g c = grind (arith, ascii_steps)
