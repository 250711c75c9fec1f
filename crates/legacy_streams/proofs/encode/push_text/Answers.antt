use Rattle.std.proofs.lemmas.Result.{err_from_is_err_and}
use Rattle.legacy_codecs.proofs.WholeTexts.{bytes_less}
use Rattle.legacy_streams.proofs.EncodingUnderWay.{text_start, text_step, text_end, text_front}
use Rattle.legacy_streams.proofs.encode.push_text.Goals as goal

pub calls-init : goal.calls-init
calls-init g c = (c.utf8.text, text_start _ _ _ _ _)

pub returns-in-InputEmpty-clause-text : goal.returns-in-InputEmpty-clause-text
returns-in-InputEmpty-clause-text g c =
    let call = c.encode-answer.ensures.call in
    text_end c.calls.invariant.1 c.in_ok-make_room.ensures.sends call.2 call.3 c.in-InputEmpty.is

pub calls-smaller : goal.calls-smaller
calls-smaller g c =
    let call = rw (← c.range_from-rest.ensures.value) at c.encode-answer.ensures.call.2 in
    bytes_less call c.in_ok-make_room.ensures.room c.in-OutputFull.is

pub calls-preserved : goal.calls-preserved
calls-preserved g c =
    let call = c.encode-answer.ensures.call in
    let one = rw (← c.range_from-rest.ensures.value) at call.2 in
    (c.range_from-rest.utf8, text_step c.calls.invariant.1 c.in_ok-make_room.ensures.sends one call.3)

pub returns-in_err-make_room-clause-err : goal.returns-in_err-make_room-clause-err
returns-in_err-make_room-clause-err g c =
    rw (err_from_is_err_and c.from_residual.result c.from_residual.ensures.1).1 (text_front c.calls.invariant.1 c.in_err-make_room.ensures.err)
