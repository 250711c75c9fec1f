use Rattle.std.proofs.Common.{arith, refl}
use Rattle.legacy_decoder_engine.specs.LanePlaces.{trail_place}
use Rattle.legacy_chinese.{specs.PairPlaces.big5_lead_place, proofs.Big5Places.{big5_rows_are, big5_yields, big5_marked}}
use Rattle.legacy_chinese.proofs.big5.decoder.Big5LaneCodec.form_at.Goals as goal

pub returns-in-Some : goal.returns-in-Some
returns-in-Some c =
    let place = c.pair_pointer-pointer.ensures big5_lead_place (trail_place 0xA1 0xFE) big5_rows_are refl in grind (arith, big5_yields)

pub returns-in-None : goal.returns-in-None
returns-in-None c =
    let place = c.pair_pointer-pointer.ensures big5_lead_place (trail_place 0xA1 0xFE) big5_rows_are refl in
    big5_marked c.args.tables.now c.args.first c.args.second c.args.third c.args.fourth c.pair_pointer-pointer.result c.marked_form.result
    (omega arith) (omega arith) place c.marked_form.ensures
