use Rattle.std.proofs.Common.{decimal, arith}
use Rattle.legacy_codecs.proofs.ReferenceTexts.{marks_before, mark_after}
use Rattle.legacy_codecs.proofs.character_references.make_reference.Goals as goal

pub returns-clause-reference : goal.returns-clause-reference
returns-clause-reference c = grind (arith, marks_before, decimal, mark_after)
