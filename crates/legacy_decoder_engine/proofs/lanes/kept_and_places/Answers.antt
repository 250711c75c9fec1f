use Rattle.std.proofs.Common.{arith}
use Rattle.legacy_decoder_engine.proofs.LaneUnits.{limited}
use Rattle.legacy_decoder_engine.proofs.lanes.kept_and_places.Goals as goal

pub returns : goal.returns
returns g c =
    limited g.C.LaneCodec.place c.args.last _ c.requires 8 c.args.codes _ c.fits-codes.0 (omega arith) c.fits-codes.1 c.places-found.ensures
