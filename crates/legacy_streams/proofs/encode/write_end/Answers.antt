use Rattle.std.proofs.lemmas.Result.{on_ok_weaker, on_err_weaker, err_from_is_err_and}
use Rattle.legacy_streams.proofs.EncodingUnderWay.{text_written, text_unwritten}
use Rattle.legacy_streams.proofs.encode.write_end.Goals as goal

pub returns-clause-text : goal.returns-clause-text
returns-clause-text g c =
    let text = rw (c.end_text.ensures, c.requires) at c.in_ok-push_text.ensures.text in
    on_ok_weaker c.write_to.result (λ w. text_written text w) c.write_to.ensures.sends

pub returns-clause-err : goal.returns-clause-err
returns-clause-err g c =
    let text = rw (c.end_text.ensures, c.requires) at c.in_ok-push_text.ensures.text in
    on_err_weaker c.write_to.result (λ w. text_unwritten text w) c.write_to.ensures.err

pub returns-in_err-push_text-clause-text : goal.returns-in_err-push_text-clause-text
returns-in_err-push_text-clause-text g c = rw (err_from_is_err_and c.from_residual.result c.from_residual.ensures.1).1 tt

pub returns-in_err-push_text-clause-err : goal.returns-in_err-push_text-clause-err
returns-in_err-push_text-clause-err g c =
    let err = rw (c.end_text.ensures, c.requires) at c.in_err-push_text.ensures.err in
    rw (err_from_is_err_and c.from_residual.result c.from_residual.ensures.1).1 err
