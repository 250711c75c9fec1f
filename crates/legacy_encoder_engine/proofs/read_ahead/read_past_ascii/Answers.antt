use Rattle.std.proofs.{Common.{◌≤◌, length, arith}, lemmas.List.length-take-le}
use Rattle.legacy_encoder_engine.proofs.ReadingAhead.{encodes_none, encodes_put, first_some, first_count, puts_some}
use Rattle.legacy_encoder_engine.proofs.read_ahead.read_past_ascii.Goals as goal

pub returns-clause-ahead : goal.returns-clause-ahead
returns-clause-ahead g c =
    let need = c.requires in
    let within : c.args.at ≤ length c.args.dst.now = omega (arith, need.room) in
    encodes_put g.S.TextCursor.form need.serves need.fits (encodes_none within) need.front c.in-Some.ensures.puts c.pass.ensures.left c.pass.ensures.passed
    (length-take-le _ _ (omega (arith, need.room))) need.room

pub returns-in_default-clause-guess : goal.returns-in_default-clause-guess
returns-in_default-clause-guess g c = c.in_default.ensures.guess

pub returns-in_default-clause-ahead : goal.returns-in_default-clause-ahead
returns-in_default-clause-ahead g c = rw c.in_default.ensures.puts (encodes_none (omega (arith, c.requires.room)))

pub returns-clause-guess : goal.returns-clause-guess
returns-clause-guess g c = c.in-Some.ensures.guess

pub put_past_ascii-requires-clause-room : goal.put_past_ascii-requires-clause-room
put_past_ascii-requires-clause-room g c = c.requires.room

pub put_past_ascii-requires-clause-past : goal.put_past_ascii-requires-clause-past
put_past_ascii-requires-clause-past g c = c.requires.past

pub put_past_ascii-requires-clause-guess : goal.put_past_ascii-requires-clause-guess
put_past_ascii-requires-clause-guess g c = c.requires.guess

pub pass-requires-clause-some : goal.pass-requires-clause-some
pass-requires-clause-some g c = first_some c.requires.front.0

pub pass-requires-clause-count : goal.pass-requires-clause-count
pass-requires-clause-count g c = first_count g.S.TextCursor.form c.requires.front

pub returns-clause-some : goal.returns-clause-some
returns-clause-some g c = puts_some c.in-Some.ensures.puts
