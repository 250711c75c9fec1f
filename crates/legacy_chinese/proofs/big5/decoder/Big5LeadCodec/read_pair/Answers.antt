use Rattle.std.proofs.Common.{◌∷◌, [], refl, subst}
use Rattle.legacy_decoder_engine.{specs.{Feeding.Took, LanePlaces.trail_place, Steps.trail_step}, proofs.TwoByteMeets.is_lead-in}
use Rattle.legacy_chinese.{specs.PairPlaces.big5_lead_place, proofs.Big5Places.{big5_rows_are, big5_at}}
use Rattle.legacy_chinese.proofs.big5.decoder.Big5LeadCodec.read_pair.Goals as goal

pub returns : goal.returns
returns c =
    let at = big5_at c.args.tables.now c.args.lead.byte c.args.trail in
    let place = c.pair_pointer-pointer.ensures big5_lead_place (trail_place 0xA1 0xFE) big5_rows_are refl in
    subst (λ s. Took (trail_step 1 s c.args.trail) (c.args.lead.byte ∷ []) c.args.trail c.read_pointer.result [])
    (rw (← place, is_lead-in c.args.lead.byte c.args.lead.low c.args.lead.high) at at) (c.read_pointer.ensures c.args.lead.byte)
