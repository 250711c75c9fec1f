use Rattle.std.proofs.Common.{rules}
use Rattle.legacy_base.specs.Gb18030.{gb18030_code}
use Rattle.legacy_chinese.proofs.gb18030.encoder.four_or_unmappable.Goals as goal

pub returns-in-Some : goal.returns-in-Some
unfolding gb18030_code
returns-in-Some c = search rules

pub returns-in-None : goal.returns-in-None
unfolding gb18030_code
returns-in-None c = search rules
