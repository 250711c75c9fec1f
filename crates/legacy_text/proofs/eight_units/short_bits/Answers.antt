use Rattle.std.proofs.Common.{arith}
use Rattle.legacy_text.proofs.UnitLanes.{short_bits_are}
use Rattle.legacy_text.proofs.eight_units.short_bits.Goals as goal

pub returns : goal.returns
returns c = grind (arith, short_bits_are c.args.units c.fits-units.0)
