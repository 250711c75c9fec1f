use Rattle.legacy_decoder_engine.proofs.LanePlaces.{leads_are}
use Rattle.legacy_decoder_engine.proofs.lane_places.lead_places.Goals as goal

pub returns : goal.returns
returns c leads room rows =
    leads_are c.args.lead leads c.args.width room c.requires.width c.requires.some rows c.args.codes c.fits-codes.0 c.fits-codes.1
