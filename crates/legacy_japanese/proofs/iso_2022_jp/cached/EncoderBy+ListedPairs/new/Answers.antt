use Rattle.std.proofs.{Common.{◌∙◌}, lemmas.List.length-take-le}
use Rattle.legacy_japanese.proofs.PointerWalks.{walked-listed}
use Rattle.legacy_japanese.proofs.iso_2022_jp.cached.EncoderBy+ListedPairs.new.Goals as goal

pub ask_others-requires : goal.ask_others-requires
ask_others-requires c = c.fill.auto.entries ∙ length-take-le 65536 c.args.room.now c.if-room-lt-PAIR_ROOM.false

pub invariant_of-result : goal.invariant_of-result
invariant_of-result c =
    let tables = c.args.encoder.now.pairs.tables.now in
    let long = c.fill.auto.entries ∙ length-take-le 65536 c.args.room.now c.if-room-lt-PAIR_ROOM.false in
    let walked = walked-listed tables.flat tables.accepted c.fill.new.entries long c.fill.ensures in
    let entries = c.ask_others.ensures walked in
    record { all = c.ask_others.auto.pairs ∙ long; told = λ k h. (entries k h).told; whole = λ k h. (entries k h).whole }
