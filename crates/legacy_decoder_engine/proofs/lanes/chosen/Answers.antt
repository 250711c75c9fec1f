use Rattle.std.proofs.{Common.arith, lemmas.Bool.Decides.nat_tests}
use Rattle.legacy_text.proofs.VectorUnits.{unit-below}
use Rattle.legacy_decoder_engine.proofs.LaneUnits.{chosen_at}
use Rattle.legacy_decoder_engine.proofs.lanes.chosen.Goals as goal

pub returns-clause-lanes : goal.returns-clause-lanes
returns-clause-lanes c = chosen_at c.args.kept c.args.entries c.fits-kept.0 c.fits-entries.0

pub returns-clause-small : goal.returns-clause-small
returns-clause-small c k h = rw (chosen_at c.args.kept c.args.entries c.fits-kept.0 c.fits-entries.0 k h)
    (grind (arith, nat_tests, unit-below c.args.kept k c.fits-kept.1, unit-below c.args.entries k c.fits-entries.1))
