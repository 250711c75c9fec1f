use Rattle.std.proofs.Common.{◌+◌, ◌<◌, arith, rules, slice_index}
use Rattle.legacy_tables.proofs.SearchedBlocks.{not-contained}
use Rattle.legacy_tables.proofs.tables.entries.U16Entry.lacks.Goals as goal

pub returns-then-number-gt65535 : goal.returns-then-number-gt65535
returns-then-number-gt65535 c = λ _ k l h e. let most : slice_index c.args.entries.now k < 0x1_0000 = search rules in absurd (omega arith)

pub returns : goal.returns
returns c = not-contained c.args.entries.now c.args.from (c.args.from + 32) _ c.requires c.contains.result c.contains.ensures.value
