use Rattle.std.proofs.Common.{◌∙◌}
use Rattle.legacy_japanese.proofs.PointerWalks.{all-listed, shift-jis-by-pointers}
use Rattle.legacy_japanese.proofs.shift_jis.encoder.ShiftJisFillsPairs.fill.Goals as goal

pub returns : goal.returns
returns c =
    let tables = c.args.encoder.now.tables.now in
    all-listed (shift-jis-by-pointers tables.flat tables.accepted) c.fill.new.entries _ (c.fill.auto.entries ∙ c.requires) c.fill.ensures
    c.ask_others.auto.pairs c.ask_others.ensures
