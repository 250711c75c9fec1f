use Rattle.legacy_decoder_engine.proofs.LanePlaces.{lates_are}
use Rattle.legacy_decoder_engine.proofs.lane_places.late_places.Goals as goal

pub returns : goal.returns
returns c limit most = lates_are c.args.first limit c.requires most c.args.codes c.fits-codes.0 c.fits-codes.1
