use Rattle.std.proofs.Common.{arith}
use Rattle.legacy_text.proofs.Texts.{unit_steps}
use Rattle.legacy_text.proofs.text_source.unit_scalar_at.Goals as goal

pub returns-then-place-units : goal.returns-then-place-units
returns-then-place-units c = grind (arith, unit_steps)

pub returns-then-high-lt55296 : goal.returns-then-high-lt55296
returns-then-high-lt55296 c = grind (arith, unit_steps)

pub returns-then-high-ge56320 : goal.returns-then-high-ge56320
returns-then-high-ge56320 c = grind (arith, unit_steps)

pub returns-then-low-lt56320 : goal.returns-then-low-lt56320
returns-then-low-lt56320 c = grind (arith, unit_steps)

pub returns : goal.returns
returns c = grind (arith, unit_steps)
