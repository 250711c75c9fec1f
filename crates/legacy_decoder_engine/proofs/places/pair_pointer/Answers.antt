use Rattle.std.proofs.Common.{refl, arith}
use Rattle.legacy_decoder_engine.proofs.PairPlaces.{read}
use Rattle.legacy_decoder_engine.proofs.places.pair_pointer.Goals as goal

pub returns : goal.returns
returns c lead_place trail_place leads trails =
    let lead = read _ lead_place leads c.args.lead (omega arith) in
    let trail = read _ trail_place trails c.args.trail (omega arith) in
    rw (c.from-2.ensures, c.from-4.ensures, c.from.ensures, c.from-3.ensures, lead, trail) refl
