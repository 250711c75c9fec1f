use Rattle.{std.proofs.Common.{arith, ◌∙◌}, legacy_encoder_engine.proofs.{CachedPairs.{asked, all-right}, WalkedPairs.walked-right}}
use Rattle.legacy_chinese.proofs.Gb18030Walk.{goes-by-pointers}
use Rattle.legacy_chinese.proofs.gb18030.encoder.Gb18030EncoderEncodesPairs.fill_pairs.Goals as goal

pub returns : goal.returns
returns c =
    let tables = c.args.self.now.tables.now in
    let goes = goes-by-pointers tables.flat tables.accepted c.args.self.now.extended_range in
    let long = c.fill.auto.entries ∙ c.requires in
    let walked = walked-right _ _ _ _ _ goes c.fill.new.entries long c.fill.ensures in
    let rows = rw c.gb18030_rows.ensures at c.ask_rows.ensures in
    grind (arith, all-right, walked, asked)
