use Rattle.std.proofs.Common.{arith}
use Rattle.legacy_decoder_engine.proofs.WrittenReads.{four_fit, reads_none}
use Rattle.legacy_miscellaneous.proofs.Utf16Ahead.{reads_pair}
use Rattle.legacy_miscellaneous.proofs.utf16.unit_blocks.Units.read_pair.Goals as goal

pub returns-then-src-lt4 : goal.returns-then-src-lt4
returns-then-src-lt4 g c = reads_none g.T.Destination _ c.args.src.now c.args.dst.now

pub put-requires : goal.put-requires
put-requires g c = four_fit g.T.Destination.form c.pair.result _ (omega (arith, c.requires.room))

pub returns-then-is_pair : goal.returns-then-is_pair
returns-then-is_pair g c =
    let e = c.put.ensures in
    let high = rw c.unit-high.ensures at (c.is_pair.ensures.high c.if-is_pair.true) in
    let low = rw c.unit-low.ensures at (c.is_pair.ensures.low c.if-is_pair.true) in
    reads_pair g.T.Destination _ c.args.src.now c.pair.result c.args.dst.now _ (λ k. (c.type_inv.src k).fits) (omega arith) high low
    (rw (c.unit-high.ensures, c.unit-low.ensures) at c.pair.ensures) c.requires.room e.contents e.room e.loan

pub returns : goal.returns
returns g c = reads_none g.T.Destination _ c.args.src.now c.args.dst.now
