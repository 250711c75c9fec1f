use Rattle.std.proofs.Common.{◌≡◌, ◌-◌, arith, length, take, drop, length-drop}
use Rattle.std.proofs.lemmas.List.{take_all}
use Rattle.legacy_exports.proofs.EncodingLaws.{replacing_call}
use Rattle.legacy_exports.proofs.calls.ReplacingEncoderCallsRefSliceU16.encode.Goals as goal

pub returns-clause-call : goal.returns-clause-call
returns-clause-call g c =
    let units = c.args.text.now in
    let read = c.encode_replacing_utf16-answer.result.1 in
    let rest : take (length units - read) (drop read units) ≡ drop read units =
    take_all (length units - read) (drop read units) (omega (arith, length-drop read units)) in
    rw (c.end_of.ensures, rest) (replacing_call _ c.encode_replacing_utf16-answer.ensures.call)
