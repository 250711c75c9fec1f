use Rattle.std.proofs.Common.{rules}
use Rattle.legacy_japanese.proofs.iso_2022_jp.bytes.read_third.Goals as goal

pub returns-in-Some-before : goal.returns-in-Some-before
returns-in-Some-before c = search rules
