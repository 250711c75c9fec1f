use Rattle.std.proofs.Common.{arith}
use Rattle.legacy_text.proofs.CodeUnits.{encoding}
use Rattle.legacy_text.proofs.scalar_bytes.utf8_entry.Goals as goal

pub returns-then-scalar-lt128 : goal.returns-then-scalar-lt128
returns-then-scalar-lt128 c = grind (arith, encoding)

pub returns-then-scalar-lt2048 : goal.returns-then-scalar-lt2048
returns-then-scalar-lt2048 c = grind (arith, encoding)

pub returns-else-scalar-lt2048 : goal.returns-else-scalar-lt2048
returns-else-scalar-lt2048 c = grind (arith, encoding)
