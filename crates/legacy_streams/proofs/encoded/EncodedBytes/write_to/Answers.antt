use Rattle.std.proofs.Common.{refl}
use Rattle.std.proofs.lemmas.Result.{err_from_is_err_and}
use Rattle.legacy_streams.proofs.EncodingUnderWay.{sends_front}
use Rattle.legacy_streams.proofs.encoded.EncodedBytes.write_to.Goals as goal

pub returns-clause-sends : goal.returns-clause-sends
returns-clause-sends g c = record { sent = _; parts = refl; written = c.in_ok-write_whole.ensures.ok }

pub returns-in_err-write_whole-clause-err : goal.returns-in_err-write_whole-clause-err
returns-in_err-write_whole-clause-err g c =
    let w = c.in_err-write_whole.ensures.err in
    rw (err_from_is_err_and c.from_residual.result c.from_residual.ensures.1).1 (sends_front w.0 w.1)
