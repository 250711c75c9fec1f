use Rattle.std.proofs.Common.{arith}
use Rattle.legacy_text.proofs.UnitLanes.{patterns_are}
use Rattle.legacy_text.proofs.eight_units.patterns.Goals as goal

pub returns : goal.returns
returns c = grind (arith, patterns_are c.args.units c.fits-units.0 c.fits-units.1)
