use Rattle.std.proofs.Common.{length-take, length-drop, arith}
use Rattle.legacy_codecs.proofs.ReferenceTexts.{front_of_part}
use Rattle.legacy_streams.proofs.encoded.EncodedBytes.encode.Goals as goal

pub returns-clause-call : goal.returns-clause-call
returns-clause-call g c = grind (arith, length-take, length-drop, front_of_part)
