use Rattle.std.proofs.Common.{◌≡◌, length, arith}
use Rattle.legacy_streams.proofs.FourDigitLines.{scalars_of_units}
use Rattle.legacy_streams.proofs.recode.lines_of_one_call.Goals as goal

pub returns : goal.returns
returns g c =
    let call = c.decode_to_utf16_raw-answer.ensures.call in
    let long : length c.args.batch.now ≡ 1024 = omega arith in
    (call.0, rw long at call.1, rw (call.2, scalars_of_units call.0 call.1.scalar) at c.push_events.ensures)
