use Rattle.legacy_exports.proofs.calls.RawDecoderCallsU16.decode.Goals as goal

pub returns-clause-call : goal.returns-clause-call
returns-clause-call g c =
    let end = rw c.decode_to_utf16_raw-answer.auto.dst at c.replace_malformed-end.ensures.call in
    end _ _ _ _ _ c.decode_to_utf16_raw-answer.ensures.call
