use Rattle.std.proofs.Common.{arith}
use Rattle.legacy_text.proofs.unit_codes.code_block.Goals as goal

pub returns-clause-codes : goal.returns-clause-codes
returns-clause-codes g c = λ k h. c.loop-k.invariant.3 k (omega arith)
