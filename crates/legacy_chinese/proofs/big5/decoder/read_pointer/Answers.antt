use Rattle.std.proofs.Common.{rules}
use Rattle.legacy_chinese.proofs.big5.decoder.read_pointer.Goals as goal

pub returns-in-1133 : goal.returns-in-1133
returns-in-1133 c = search rules
