use Rattle.{std.proofs.Common.◌∙◌, legacy_encoder_engine.proofs.WalkedPairs.all-past-ascii, legacy_chinese.proofs.Big5Walk.goes-by-pointers}
use Rattle.legacy_chinese.proofs.big5.encoder.Big5FillsPairs.fill.Goals as goal

pub returns : goal.returns
returns c =
    let goes = goes-by-pointers (c.args.encoder.now.tables.now) in
    let ask = c.ask_pairs.ensures in
    all-past-ascii goes c.fill.new.entries _ (c.fill.auto.entries ∙ c.requires) c.fill.ensures
    c.ask_pairs.auto.pairs ask.inside ask.outside
