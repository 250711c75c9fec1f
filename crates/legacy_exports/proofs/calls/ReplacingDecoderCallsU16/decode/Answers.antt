use Rattle.legacy_exports.proofs.DecodingLaws.{replacing_call}
use Rattle.legacy_exports.proofs.calls.ReplacingDecoderCallsU16.decode.Goals as goal

pub returns-clause-call : goal.returns-clause-call
returns-clause-call g c = rw c.end_of.ensures (replacing_call _ c.decode_replacing_utf16-answer.ensures.call)
