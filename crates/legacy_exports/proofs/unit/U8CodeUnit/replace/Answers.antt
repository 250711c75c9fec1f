use Rattle.std.proofs.Common.{arith}
use Rattle.legacy_text.proofs.CodeUnits.{encode_3}
use Rattle.legacy_exports.proofs.OutputParts.{three_put}
use Rattle.legacy_exports.proofs.unit.U8CodeUnit.replace.Goals as goal

pub returns-clause-text : goal.returns-clause-text
returns-clause-text c = grind (arith, three_put, encode_3)
