use Rattle.std.proofs.Common.{arith}
use Rattle.legacy_text.proofs.Texts.{by_bytes_steps}
use Rattle.legacy_text.proofs.text_source.by_bytes.Goals as goal

pub returns-then-first-lt128 : goal.returns-then-first-lt128
returns-then-first-lt128 c = grind (arith, by_bytes_steps)

pub returns-then-first-lt224 : goal.returns-then-first-lt224
returns-then-first-lt224 c = grind (arith, by_bytes_steps)

pub returns-then-first-lt240 : goal.returns-then-first-lt240
returns-then-first-lt240 c = grind (arith, by_bytes_steps)

pub returns-else-first-lt240 : goal.returns-else-first-lt240
returns-else-first-lt240 c = grind (arith, by_bytes_steps)

pub scalar_of-requires : goal.scalar_of-requires
scalar_of-requires c = grind (arith, by_bytes_steps)

pub scalar_of-requires-then-first-lt240 : goal.scalar_of-requires-then-first-lt240
scalar_of-requires-then-first-lt240 c = grind (arith, by_bytes_steps)
