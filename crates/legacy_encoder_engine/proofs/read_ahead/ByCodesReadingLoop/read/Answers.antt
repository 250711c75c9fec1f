use Rattle.std.proofs.Common.{arith}
use Rattle.legacy_tables.proofs.RangePointers.{no-part}
use Rattle.legacy_encoder_engine.{specs.Guesses.codec_ranges, proofs.ReadingAhead.encodes_then}
use Rattle.legacy_encoder_engine.proofs.read_ahead.ByCodesReadingLoop.read.Goals as goal

pub loop-at-init : goal.loop-at-init
loop-at-init g c =
    let none = c.none-guess.ensures in
    let ranges = codec_ranges (g.C.AheadCodes.state c.args.self.now.codes.now).codec in
    grind (arith, no-part ranges c.none-guess.result none.first none.count none.scalar)

pub loop-at-preserved : goal.loop-at-preserved
loop-at-preserved g c =
    let blocks = encodes_then c.loop-at.invariant.0 c.read_blocks-at.ensures (omega arith) in
    (encodes_then blocks c.read_scalars-end.ensures.ahead (omega arith), c.read_scalars-end.ensures.guess)

pub returns-then-end-at : goal.returns-then-end-at
returns-then-end-at g c =
    let blocks = encodes_then c.loop-at.invariant.0 c.read_blocks-at.ensures (omega arith) in
    let all = encodes_then blocks c.read_scalars-end.ensures.ahead (omega arith) in
    record { keeps = all.keeps; passed = all.units; start = omega arith; end = omega arith }
