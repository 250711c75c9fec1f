use Rattle.std.proofs.Common.{arith}
use Rattle.legacy_text.proofs.Ascii.{copy_steps}
use Rattle.legacy_text.proofs.blocks.copy_unit_blocks.Goals as goal

pub loop-copied-preserved : goal.loop-copied-preserved
loop-copied-preserved c = grind (arith, copy_steps)

pub returns-then-count-lt16 : goal.returns-then-count-lt16
returns-then-count-lt16 c = grind (arith, copy_steps)
