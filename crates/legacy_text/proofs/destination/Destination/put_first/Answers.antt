use Rattle.std.proofs.Common.{arith}
use Rattle.legacy_text.proofs.VectorUnits.{first_steps}
use Rattle.legacy_text.proofs.destination.Destination.put_first.Goals as goal

pub returns : goal.returns
returns g c = grind (arith, first_steps)

pub loop-at-preserved : goal.loop-at-preserved
loop-at-preserved g c = grind (arith, first_steps)

pub put-requires : goal.put-requires
put-requires g c = grind (arith, first_steps)
