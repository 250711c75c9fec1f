use Rattle.std.proofs.{Common.{◌+◌, ◌∙◌, arith, ap, length, length-drop}, lemmas.Result.{on_ok_weaker, on_err_weaker, err_from_is_err_and}}
use Rattle.legacy_streams.proofs.PieceUnderWay.{piece_start, call_step, piece_front, call_end, call_less, piece_ahead, piece_malformed_less}
use Rattle.legacy_streams.proofs.recode.recode_piece.Goals as goal

pub calls-init : goal.calls-init
calls-init g c = piece_start _ c.args.piece.now c.args.last c.args.total _ _ c.requires.empty

pub returns-in_err-make_room-clause-piece : goal.returns-in_err-make_room-clause-piece
returns-in_err-make_room-clause-piece g c = rw (err_from_is_err_and c.from_residual.result c.from_residual.ensures.1).1 tt

pub returns-in_err-make_room-clause-empty : goal.returns-in_err-make_room-clause-empty
returns-in_err-make_room-clause-empty g c = rw (err_from_is_err_and c.from_residual.result c.from_residual.ensures.1).1 tt

pub rest_of-requires : goal.rest_of-requires
rest_of-requires g c = c.calls.invariant.within

pub overflow_add-total : goal.overflow_add-total
overflow_add-total g c = omega (arith, c.calls.invariant.within, c.requires.total)

pub lines_of_malformed_bytes-offset-requires-clause-room : goal.lines_of_malformed_bytes-offset-requires-clause-room
lines_of_malformed_bytes-offset-requires-clause-room g c = c.in_ok-make_room.ensures.room

pub lines_of_malformed_bytes-offset-requires-clause-total : goal.lines_of_malformed_bytes-offset-requires-clause-total
lines_of_malformed_bytes-offset-requires-clause-total g c =
    omega (arith, c.calls.invariant.within, c.requires.total, ap length c.rest_of.ensures, length-drop c.calls.offset c.args.piece.now)

pub overflow_add-offset : goal.overflow_add-offset
overflow_add-offset g c =
    let count = c.lines_of_malformed_bytes-offset.ensures.count in
    omega (arith, c.calls.invariant.within, c.requires.total, ap length c.rest_of.ensures, length-drop c.calls.offset c.args.piece.now, count)

pub rest_of-unread-requires : goal.rest_of-unread-requires
rest_of-unread-requires g c =
    let count = c.lines_of_malformed_bytes-offset.ensures.count in
    omega (arith, c.calls.invariant.within, ap length c.rest_of.ensures, length-drop c.calls.offset c.args.piece.now, count)

pub overflow_add-total-in-calls : goal.overflow_add-total-in-calls
overflow_add-total-in-calls g c =
    let count = c.lines_of_malformed_bytes-offset.ensures.count in
    omega (arith, c.calls.invariant.within, c.requires.total, ap length c.rest_of.ensures, length-drop c.calls.offset c.args.piece.now, count)

pub lines_of_one_call-answer-requires-clause-room : goal.lines_of_one_call-answer-requires-clause-room
lines_of_one_call-answer-requires-clause-room g c = c.lines_of_malformed_bytes-offset.ensures.room

pub returns-in-InputEmpty-clause-empty : goal.returns-in-InputEmpty-clause-empty
returns-in-InputEmpty-clause-empty g c = c.write_to.ensures.text

pub returns-in_err-make_room-clause-err : goal.returns-in_err-make_room-clause-err
returns-in_err-make_room-clause-err g c =
    let w = c.in_err-make_room.ensures.err in
    rw (err_from_is_err_and c.from_residual.result c.from_residual.ensures.1).1 (piece_front c.calls.invariant _ w.0 w.1)

pub returns-in-InputEmpty-clause-piece : goal.returns-in-InputEmpty-clause-piece
returns-in-InputEmpty-clause-piece g c =
    let m = c.lines_of_malformed_bytes-offset.ensures in
    let ahead = piece_ahead _ c.calls.invariant c.in_ok-make_room.ensures.written c.rest_of.ensures m.count m.malformed_byte m.text in
    let call = c.lines_of_one_call-answer.ensures in
    on_ok_weaker c.write_to.result (λ w. call_end ahead c.rest_of-unread.ensures call _ c.in-InputEmpty.is w) c.write_to.ensures.written

pub returns-in-InputEmpty-clause-err : goal.returns-in-InputEmpty-clause-err
returns-in-InputEmpty-clause-err g c =
    let m = c.lines_of_malformed_bytes-offset.ensures in
    let ahead = piece_ahead _ c.calls.invariant c.in_ok-make_room.ensures.written c.rest_of.ensures m.count m.malformed_byte m.text in
    let step = call_step ahead c.rest_of-unread.ensures c.lines_of_one_call-answer.ensures in
    on_err_weaker c.write_to.result (λ w. piece_front step _ w.0 w.1) c.write_to.ensures.err

pub calls-preserved : goal.calls-preserved
calls-preserved g c =
    let m = c.lines_of_malformed_bytes-offset.ensures in
    let ahead = piece_ahead _ c.calls.invariant c.in_ok-make_room.ensures.written c.rest_of.ensures m.count m.malformed_byte m.text in
    call_step ahead c.rest_of-unread.ensures c.lines_of_one_call-answer.ensures

pub calls-smaller : goal.calls-smaller
calls-smaller g c =
    let m = c.lines_of_malformed_bytes-offset.ensures in
    let ahead = piece_ahead _ c.calls.invariant c.in_ok-make_room.ensures.written c.rest_of.ensures m.count m.malformed_byte m.text in
    let less = call_less ahead c.rest_of-unread.ensures c.lines_of_one_call-answer.ensures c.in_default.not-InputEmpty in
    let most = piece_malformed_less _ (g.D.RawDecoder.state c.calls.decoder) c.args.piece.now c.calls.offset c.rest_of.ensures m.count m.malformed_byte in
    omega (arith, less, most)

pub lines_of_one_call-answer-requires-clause-total : goal.lines_of_one_call-answer-requires-clause-total
lines_of_one_call-answer-requires-clause-total g c =
    let count = c.lines_of_malformed_bytes-offset.ensures.count in
    let before = length-drop c.calls.offset c.args.piece.now in
    let unread = ap length c.rest_of-unread.ensures ∙ length-drop (c.calls.offset + c.lines_of_malformed_bytes-offset.result) c.args.piece.now in
    omega (arith, c.calls.invariant.within, c.requires.total, ap length c.rest_of.ensures, before, count, unread)

pub overflow_add-offset-in-calls : goal.overflow_add-offset-in-calls
overflow_add-offset-in-calls g c =
    let count = c.lines_of_malformed_bytes-offset.ensures.count in
    let before = length-drop c.calls.offset c.args.piece.now in
    let unread = ap length c.rest_of-unread.ensures ∙ length-drop (c.calls.offset + c.lines_of_malformed_bytes-offset.result) c.args.piece.now in
    let read = c.lines_of_one_call-answer.ensures.1.within in
    omega (arith, c.calls.invariant.within, c.requires.total, ap length c.rest_of.ensures, before, count, unread, read)
