use Rattle.std.proofs.{Common.arith, lemmas.List.length-take-le}
use Rattle.legacy_encoder_engine.proofs.ReadingAhead.{encodes_none, encodes_then, encodes_put, first_some, first_count, past_ascii, puts_some}
use Rattle.legacy_encoder_engine.proofs.read_ahead.read_scalars.Goals as goal

pub loop-dst-preserved-else-by_tens : goal.loop-dst-preserved-else-by_tens
loop-dst-preserved-else-by_tens g c =
    let widest = c.widest-widest.ensures in
    let before = c.loop-dst.invariant.0 in
    let one = encodes_put g.S.TextCursor.form widest.serves (widest.fits _) before c.in-One.ensures
    c.in-Some.ensures.puts c.pass.ensures.left c.pass.ensures.passed
    (length-take-le _ _ (omega (arith, before.end))) (omega (arith, c.loop-dst-test.true, widest.is)) in
    (one, c.in-Some.ensures.guess)

pub loop-dst-preserved-then-has_tens : goal.loop-dst-preserved-then-has_tens
loop-dst-preserved-then-has_tens g c =
    let widest = c.widest-widest.ensures in
    let before = c.loop-dst.invariant.0 in
    let one = encodes_put g.S.TextCursor.form widest.serves (widest.fits _) before c.in-One.ensures
    c.in-Some.ensures.puts c.pass.ensures.left c.pass.ensures.passed
    (length-take-le _ _ (omega (arith, before.end))) (omega (arith, c.loop-dst-test.true, widest.is)) in
    (encodes_then one c.read_tens-at.ensures (omega arith), c.in-Some.ensures.guess)

pub loop-dst-init : goal.loop-dst-init
loop-dst-init g c = (encodes_none c.requires.start, c.requires.guess)

pub returns-then-at-start : goal.returns-then-at-start
returns-then-at-start g c = record { ahead = c.loop-dst.invariant.0; guess = c.loop-dst.invariant.1 }

pub returns-in_default : goal.returns-in_default
returns-in_default g c = record { ahead = rw c.in_default.ensures.puts c.loop-dst.invariant.0; guess = c.in_default.ensures.guess }

pub returns-in_default-read_past_ascii : goal.returns-in_default-read_past_ascii
returns-in_default-read_past_ascii g c =
    let past = c.in_default-read_past_ascii.ensures in
    record { ahead = encodes_then c.loop-dst.invariant.0 past.ahead (omega arith); guess = past.guess }

pub loop-dst-preserved-then-goes_on : goal.loop-dst-preserved-then-goes_on
loop-dst-preserved-then-goes_on g c =
    let one = encodes_then c.loop-dst.invariant.0 c.in-Some-read_past_ascii.ensures.ahead (omega arith) in
    (encodes_then one c.read_turns-at.ensures (omega arith), c.in-Some-read_past_ascii.ensures.guess)

pub loop-dst-preserved-else-goes_on : goal.loop-dst-preserved-else-goes_on
loop-dst-preserved-else-goes_on g c =
    (encodes_then c.loop-dst.invariant.0 c.in-Some-read_past_ascii.ensures.ahead (omega arith), c.in-Some-read_past_ascii.ensures.guess)

pub loop-dst-preserved : goal.loop-dst-preserved
loop-dst-preserved g c =
    let three = c.in-Some-read_past_ascii-2.ensures in
    (encodes_then c.loop-dst.invariant.0 three.ahead (omega arith), three.guess)

pub returns-in-None : goal.returns-in-None
returns-in-None g c = record { ahead = encodes_then c.loop-dst.invariant.0 c.in-None.ensures.ahead (omega arith); guess = c.in-None.ensures.guess }

pub returns-in-Four : goal.returns-in-Four
returns-in-Four g c = record { ahead = c.loop-dst.invariant.0; guess = c.loop-dst.invariant.1 }

pub returns : goal.returns
returns g c = record { ahead = c.loop-dst.invariant.0; guess = c.loop-dst.invariant.1 }

pub put_code-requires-clause-room : goal.put_code-requires-clause-room
put_code-requires-clause-room g c = omega (arith, c.widest-widest.ensures.is)

pub read_past_ascii-requires-clause-room : goal.read_past_ascii-requires-clause-room
read_past_ascii-requires-clause-room g c = omega (arith, c.widest-widest.ensures.is)

pub read_past_ascii-requires-in-Three-clause-room : goal.read_past_ascii-requires-in-Three-clause-room
read_past_ascii-requires-in-Three-clause-room g c = omega (arith, c.widest-widest.ensures.is)

pub put_code-requires-clause-guess : goal.put_code-requires-clause-guess
put_code-requires-clause-guess g c = c.loop-dst.invariant.1

pub read_past_ascii-requires-clause-fits : goal.read_past_ascii-requires-clause-fits
read_past_ascii-requires-clause-fits g c = c.widest-widest.ensures.fits _

pub read_past_ascii-requires-clause-serves : goal.read_past_ascii-requires-clause-serves
read_past_ascii-requires-clause-serves g c = c.widest-widest.ensures.serves

pub read_past_ascii-requires-clause-guess : goal.read_past_ascii-requires-clause-guess
read_past_ascii-requires-clause-guess g c = c.loop-dst.invariant.1

pub read_past_ascii-requires-in-Three-clause-fits : goal.read_past_ascii-requires-in-Three-clause-fits
read_past_ascii-requires-in-Three-clause-fits g c = c.widest-widest.ensures.fits _

pub read_past_ascii-requires-in-Three-clause-serves : goal.read_past_ascii-requires-in-Three-clause-serves
read_past_ascii-requires-in-Three-clause-serves g c = c.widest-widest.ensures.serves

pub read_past_ascii-requires-in-Three-clause-guess : goal.read_past_ascii-requires-in-Three-clause-guess
read_past_ascii-requires-in-Three-clause-guess g c = c.loop-dst.invariant.1

pub overflow_sub-dst : goal.overflow_sub-dst
overflow_sub-dst g c = omega (arith, c.loop-dst.invariant.0.end)

pub pass-requires-clause-some : goal.pass-requires-clause-some
pass-requires-clause-some g c = first_some c.in-One.ensures.0

pub pass-requires-clause-count : goal.pass-requires-clause-count
pass-requires-clause-count g c = first_count g.S.TextCursor.form c.in-One.ensures

pub read_tens-at-requires : goal.read_tens-at-requires
read_tens-at-requires g c =
    let widest = c.widest-widest.ensures in
    let puts = c.in-Some.ensures.puts in omega (arith, puts.moves.fits, puts.ends, widest.fits c.in-One.c, widest.is)

pub loop-dst-smaller-then-has_tens : goal.loop-dst-smaller-then-has_tens
loop-dst-smaller-then-has_tens g c =
    let widest = c.widest-widest.ensures in
    let puts = c.in-Some.ensures.puts in omega (arith, puts_some puts, puts.moves.fits, puts.ends, widest.fits c.in-One.c, widest.is)

pub loop-dst-smaller-else-by_tens : goal.loop-dst-smaller-else-by_tens
loop-dst-smaller-else-by_tens g c =
    let widest = c.widest-widest.ensures in
    let puts = c.in-Some.ensures.puts in omega (arith, puts_some puts, puts.moves.fits, puts.ends, widest.fits c.in-One.c, widest.is)

pub read_past_ascii-requires-clause-past : goal.read_past_ascii-requires-clause-past
read_past_ascii-requires-clause-past g c = past_ascii g.S.TextCursor.form c.in-Two.ensures.1 (omega arith)

pub read_past_ascii-requires-clause-front : goal.read_past_ascii-requires-clause-front
read_past_ascii-requires-clause-front g c = c.in-Two.ensures

pub read_turns-at-requires : goal.read_turns-at-requires
read_turns-at-requires g c = omega (arith, c.in-Some-read_past_ascii.ensures.ahead.end)

pub loop-dst-smaller-then-goes_on : goal.loop-dst-smaller-then-goes_on
loop-dst-smaller-then-goes_on g c = let past = c.in-Some-read_past_ascii.ensures in omega (arith, past.some, past.ahead.end, c.read_turns-at.ensures.start)

pub loop-dst-smaller-else-goes_on : goal.loop-dst-smaller-else-goes_on
loop-dst-smaller-else-goes_on g c = let past = c.in-Some-read_past_ascii.ensures in omega (arith, past.some, past.ahead.end)

pub read_past_ascii-requires-in-Three-clause-past : goal.read_past_ascii-requires-in-Three-clause-past
read_past_ascii-requires-in-Three-clause-past g c = past_ascii g.S.TextCursor.form c.in-Three.ensures.1 (omega arith)

pub read_past_ascii-requires-in-Three-clause-front : goal.read_past_ascii-requires-in-Three-clause-front
read_past_ascii-requires-in-Three-clause-front g c = c.in-Three.ensures

pub loop-dst-smaller : goal.loop-dst-smaller
loop-dst-smaller g c = let past = c.in-Some-read_past_ascii-2.ensures in omega (arith, past.some, past.ahead.end)
