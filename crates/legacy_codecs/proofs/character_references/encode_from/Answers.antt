use Rattle.std.proofs.{Common.{length-append, length-take, length-drop, arith}, lemmas.List.length-take-le}
use Rattle.legacy_codecs.proofs.ReferenceTexts.{front_of_part}
use Rattle.legacy_codecs.proofs.character_references.encode_from.Goals as goal

pub returns-clause-call : goal.returns-clause-call
returns-clause-call g c = grind (arith, length-take-le, length-drop, front_of_part)

pub returns-clause-room : goal.returns-clause-room
returns-clause-room g c = grind (arith, length-append, length-take, length-drop)
