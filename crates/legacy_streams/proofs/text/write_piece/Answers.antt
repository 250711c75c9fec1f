use Rattle.std.proofs.{Common.arith, lemmas.Result.err_from_is_err_and}
use Rattle.legacy_streams.proofs.TextUnderWay.{text_start, text_step, text_end, text_front, text_less}
use Rattle.legacy_streams.proofs.text.write_piece.Goals as goal

pub calls-init : goal.calls-init
calls-init g c = text_start _ c.args.piece.now c.args.last _

pub returns-in-InputEmpty-clause-piece : goal.returns-in-InputEmpty-clause-piece
returns-in-InputEmpty-clause-piece g c =
    let call = rw c.rest_of-unread.ensures at c.decode_replacing_utf8-answer.ensures.call in
    text_end c.calls.invariant call _ c.in_ok-write_whole.ensures.ok c.in-InputEmpty.is

pub calls-preserved : goal.calls-preserved
calls-preserved g c =
    let call = rw c.rest_of-unread.ensures at c.decode_replacing_utf8-answer.ensures.call in
    text_step c.calls.invariant call c.in_ok-write_whole.ensures.ok

pub calls-smaller : goal.calls-smaller
calls-smaller g c =
    let call = rw c.rest_of-unread.ensures at c.decode_replacing_utf8-answer.ensures.call in
    let same = c.calls.auto.text in
    text_less c.calls.invariant call (let r = c.requires in omega arith) c.in_default.not-InputEmpty

pub returns-in_err-write_whole-clause-err : goal.returns-in_err-write_whole-clause-err
returns-in_err-write_whole-clause-err g c =
    let call = rw c.rest_of-unread.ensures at c.decode_replacing_utf8-answer.ensures.call in
    let w = c.in_err-write_whole.ensures.err in
    rw (err_from_is_err_and c.from_residual.result c.from_residual.ensures.1).1 (text_front c.calls.invariant call _ w.0 w.1)

pub returns-in_err-write_whole-clause-piece : goal.returns-in_err-write_whole-clause-piece
returns-in_err-write_whole-clause-piece g c = rw (err_from_is_err_and c.from_residual.result c.from_residual.ensures.1).1 tt
