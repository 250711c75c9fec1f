use Rattle.std.proofs.Common.{rules}
use Rattle.legacy_base.specs.Gb18030.{gb18030_code, gbk_code}
use Rattle.legacy_chinese.proofs.gb18030.encoder.any_code_of.Goals as goal

pub returns-in-Some : goal.returns-in-Some
unfolding gb18030_code gbk_code
returns-in-Some c = search rules

pub returns-in-None : goal.returns-in-None
unfolding gb18030_code gbk_code
returns-in-None c = search rules

pub returns-then-scalar-eq8364 : goal.returns-then-scalar-eq8364
unfolding gb18030_code gbk_code
returns-then-scalar-eq8364 c = search rules

pub returns : goal.returns
unfolding gb18030_code gbk_code
returns c = search rules
