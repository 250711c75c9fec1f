use Rattle.std.proofs.Common.{arith, get_or}
use Rattle.legacy_decoder_engine.proofs.WrittenReads.{writes_none}
use Rattle.legacy_miscellaneous.proofs.UserDefinedAhead.{byte_fits, byte_written, bytes_read, few_bytes, is_single}
use Rattle.legacy_miscellaneous.proofs.user_defined.blocks.read_few.Goals as goal

pub loop-at-init : goal.loop-at-init
loop-at-init g c = record { within = omega arith; room = omega arith; writes = writes_none g.T.Destination _ c.args.dst.now }

pub put-requires : goal.put-requires
put-requires g c =
    let few = few_bytes g.T.Destination c.args.src.now c.free.ensures c.saturating_sub.ensures c.narrow.ensures c.min-most.ensures in
    let byte = get_or c.args.src.now c.loop-at.at 0 in
    let single = is_single byte c.scalar_of.result (omega arith) c.scalar_of.type_inv.1.1 c.scalar_of.ensures in
    byte_fits g.T.Destination c.args.src.now few.0 c.loop-at.invariant c.loop-at-test.true single.0

pub loop-at-preserved : goal.loop-at-preserved
loop-at-preserved g c =
    let e = c.put.ensures in
    let few = few_bytes g.T.Destination c.args.src.now c.free.ensures c.saturating_sub.ensures c.narrow.ensures c.min-most.ensures in
    let byte = get_or c.args.src.now c.loop-at.at 0 in
    let single = is_single byte c.scalar_of.result (omega arith) c.scalar_of.type_inv.1.1 c.scalar_of.ensures in
    byte_written g.T.Destination c.args.src.now few.0 few.1 c.loop-at.invariant c.loop-at-test.true single e.contents e.room e.loan

pub returns : goal.returns
returns g c =
    let few = few_bytes g.T.Destination c.args.src.now c.free.ensures c.saturating_sub.ensures c.narrow.ensures c.min-most.ensures in
    bytes_read g.T.Destination c.args.src.now few.0 few.1 c.loop-at.invariant
