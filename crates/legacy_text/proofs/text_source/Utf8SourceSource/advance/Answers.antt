use Rattle.std.proofs.Common.{arith}
use Rattle.legacy_text.proofs.Texts.{advance_steps}
use Rattle.legacy_text.proofs.text_source.Utf8SourceSource.advance.Goals as goal

pub invariant_of-self : goal.invariant_of-self
invariant_of-self c = grind (arith, advance_steps)

pub returns-in-Some-clause-left : goal.returns-in-Some-clause-left
returns-in-Some-clause-left c = grind (arith, advance_steps)

pub returns-in-Some-clause-passed : goal.returns-in-Some-clause-passed
returns-in-Some-clause-passed c = grind (arith, advance_steps)

pub returns-in_default-clause-left : goal.returns-in_default-clause-left
returns-in_default-clause-left c = grind (arith, advance_steps)
