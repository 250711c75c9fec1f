use Rattle.std.proofs.Common.{◌≡◌, ◌-◌, arith, length, take, drop, length-drop}
use Rattle.std.proofs.lemmas.List.{take_all}
use Rattle.legacy_exports.proofs.calls.RawEncoderCallsRefSliceU16.encode.Goals as goal

pub returns-clause-call : goal.returns-clause-call
returns-clause-call g c =
    let units = c.args.text.now in
    let read = c.encode_from_utf16_raw-answer.result.1 in
    let rest : take (length units - read) (drop read units) ≡ drop read units =
    take_all (length units - read) (drop read units) (omega (arith, length-drop read units)) in
    let end = rw c.encode_from_utf16_raw-answer.auto.dst at c.replace_unmappable-end.ensures.call in
    rw rest (end _ _ _ _ _ c.encode_from_utf16_raw-answer.ensures.call)
