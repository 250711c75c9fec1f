use Rattle.{std.proofs.Common.arith, legacy_decoder_engine.proofs.WrittenReads.reads_none, legacy_miscellaneous.proofs.UserDefinedAhead.reads_front}
use Rattle.legacy_miscellaneous.proofs.user_defined.blocks.read_ascii_block.Goals as goal

pub returns-then-src-lt64 : goal.returns-then-src-lt64
returns-then-src-lt64 g c = reads_none g.T.Destination _ c.args.src.now c.args.dst.now

pub returns-then-past-ne0 : goal.returns-then-past-ne0
returns-then-past-ne0 g c = reads_none g.T.Destination _ c.args.src.now c.args.dst.now

pub returns : goal.returns
returns g c =
    let e = c.put_front.ensures in
    reads_front g.T.Destination c.args.src.now c.put_front.result e.read c.if-src-lt64.false e.ascii (omega (arith, c.free.ensures, c.if-free.false))
    e.contents e.room e.loan
