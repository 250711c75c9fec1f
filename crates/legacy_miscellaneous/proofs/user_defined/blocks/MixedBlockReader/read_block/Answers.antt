use Rattle.std.proofs.Common.{arith, get_or}
use Rattle.legacy_decoder_engine.proofs.{JoinedReads.reads_more, WrittenReads.{reads_none, three_fit}}
use Rattle.legacy_miscellaneous.proofs.UserDefinedAhead.{is_single, reads_front, reads_byte}
use Rattle.legacy_miscellaneous.proofs.user_defined.blocks.MixedBlockReader.read_block.Goals as goal

pub returns-then-src-le64 : goal.returns-then-src-le64
returns-then-src-le64 g c = record { ahead = reads_none g.T.Destination _ c.args.src.now c.args.dst.now; goes_on = λ h. cc }

pub returns-then-count-eq64-clause-ahead : goal.returns-then-count-eq64-clause-ahead
returns-then-count-eq64-clause-ahead g c =
    let e = c.put_front-count.ensures in
    reads_front g.T.Destination c.args.src.now c.put_front-count.result e.read (omega (arith, c.if-src-le64.false)) e.ascii
    (omega (arith, c.free.ensures, c.if-free.false)) e.contents e.room e.loan

pub returns-then-src-count-lt128-clause-ahead : goal.returns-then-src-count-lt128-clause-ahead
returns-then-src-count-lt128-clause-ahead g c =
    let e = c.put_front-count.ensures in
    let p = c.put.ensures in
    let single = is_single (get_or c.args.src.now c.put_front-count.result 0) c.scalar_of.result (omega arith) c.scalar_of.type_inv.1.1 c.scalar_of.ensures in
    let front = reads_front g.T.Destination c.args.src.now c.put_front-count.result e.read (omega (arith, c.if-src-le64.false)) e.ascii
    (omega (arith, c.free.ensures, c.if-free.false)) e.contents e.room e.loan in
    reads_byte _ _ _ _ front (omega (arith, e.read)) (omega (arith, e.read, e.room, c.free.ensures)) single p.contents p.room p.loan

pub returns-clause-ahead : goal.returns-clause-ahead
returns-clause-ahead g c =
    let e = c.put_front-count.ensures in
    let front = reads_front g.T.Destination c.args.src.now c.put_front-count.result e.read (omega (arith, c.if-src-le64.false)) e.ascii
    (omega (arith, c.free.ensures, c.if-free.false)) e.contents e.room e.loan in
    reads_more front c.read_eights-read.ensures

pub put-requires : goal.put-requires
put-requires g c =
    let e = c.put_front-count.ensures in
    let single = is_single (get_or c.args.src.now c.put_front-count.result 0) c.scalar_of.result (omega arith) c.scalar_of.type_inv.1.1 c.scalar_of.ensures in
    three_fit g.T.Destination.form c.scalar_of.result _ single.0 (omega (arith, e.read, e.room, c.free.ensures))
