use Rattle.std.proofs.Common.{arith, append_assoc}
use Rattle.legacy_text.proofs.UnitLanes.{text_of_eight}
use Rattle.legacy_text.proofs.eight_units.put_eight_units.Goals as goal

pub returns-clause-written : goal.returns-clause-written
returns-clause-written c =
    let l = c.unit_lanes.ensures in
    let p = c.patterns-first.ensures in
    let text = rw (← l.front, ← l.back, ← p.front, ← p.back) at (text_of_eight c.args.units c.fits-units.0 c.fits-units.1) in
    grind (arith, append_assoc)
