use Rattle.legacy_text.proofs.UnitLanes.{units_below, units_all_below}
use Rattle.legacy_text.proofs.eight_units.are_all_below.Goals as goal

pub returns : goal.returns
returns c = (units_below c.args.bound c.args.units c.fits-units.0, units_all_below c.args.bound c.args.units c.fits-units.0)
