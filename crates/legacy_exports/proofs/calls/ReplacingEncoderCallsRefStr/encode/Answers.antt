use Rattle.legacy_exports.proofs.EncodingLaws.{replacing_call}
use Rattle.legacy_exports.proofs.calls.ReplacingEncoderCallsRefStr.encode.Goals as goal

pub returns-clause-call : goal.returns-clause-call
returns-clause-call g c = rw (c.end_of.ensures, c.range_from.ensures.value) (replacing_call _ c.encode_replacing_utf8-answer.ensures.call)
