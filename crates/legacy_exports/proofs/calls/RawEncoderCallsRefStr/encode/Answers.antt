use Rattle.legacy_exports.proofs.calls.RawEncoderCallsRefStr.encode.Goals as goal

pub returns-clause-call : goal.returns-clause-call
returns-clause-call g c =
    let end = rw c.encode_from_utf8_raw-answer.auto.dst at c.replace_unmappable-end.ensures.call in
    rw c.range_from.ensures.value (end _ _ _ _ _ c.encode_from_utf8_raw-answer.ensures.call)
