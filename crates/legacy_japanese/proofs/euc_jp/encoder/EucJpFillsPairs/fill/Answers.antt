use Rattle.std.proofs.Common.{◌∙◌}
use Rattle.legacy_japanese.proofs.PointerWalks.{all-listed, euc-jp-by-pointers}
use Rattle.legacy_japanese.proofs.euc_jp.encoder.EucJpFillsPairs.fill.Goals as goal

pub returns : goal.returns
returns c =
    let tables = c.args.encoder.now.tables.now in
    all-listed (euc-jp-by-pointers tables.flat tables.accepted) c.fill.new.entries _ (c.fill.auto.entries ∙ c.requires) c.fill.ensures c.ask_others.auto.pairs
    c.ask_others.ensures
