use Rattle.legacy_decoder_engine.proofs.LanePlaces.{sums_are}
use Rattle.legacy_decoder_engine.proofs.lane_places.place_sums.Goals as goal

pub returns : goal.returns
returns c limit lead trail codes small e f = sums_are limit small lead trail codes c.args.leads c.args.trails c.fits-leads.1 c.fits-trails.1 e f
