use Rattle.legacy_index_files.proofs.IndexLines.{lines-split, lines-whole}
use Rattle.legacy_index_files.proofs.index_line.split_line.Goals as goal

pub returns-in-Some-clause-first : goal.returns-in-Some-clause-first
returns-in-Some-clause-first c = lines-split c.args.text.now c.in-Some.end c.in-Some.ensures

pub returns-in-None-clause-first : goal.returns-in-None-clause-first
returns-in-None-clause-first c = lines-whole c.args.text.now c.requires c.in-None.ensures
