use Rattle.legacy_decoder_engine.proofs.LanePlaces.{trails_are}
use Rattle.legacy_decoder_engine.proofs.lane_places.trail_places.Goals as goal

pub returns : goal.returns
returns c limit = trails_are _ _ c.requires.gap c.requires.some c.requires.byte limit _ c.fits-codes.0 c.fits-codes.1
