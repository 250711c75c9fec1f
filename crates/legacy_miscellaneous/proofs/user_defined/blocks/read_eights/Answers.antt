use Rattle.legacy_decoder_engine.proofs.WrittenReads.{reads_none}
use Rattle.legacy_miscellaneous.proofs.UserDefinedAhead.{eight_read, rest_bytes, units_scalar}
use Rattle.legacy_miscellaneous.proofs.user_defined.blocks.read_eights.Goals as goal

pub put_eight-requires-clause-scalars : goal.put_eight-requires-clause-scalars
put_eight-requires-clause-scalars g c =
    let low = rest_bytes c.args.src.now c.loop-at.at (λ k. (c.type_inv.src k).fits) in
    units_scalar _ c.units_of.result low c.units_of.ensures.count c.units_of.ensures.same

pub loop-at-preserved : goal.loop-at-preserved
loop-at-preserved g c =
    let e = c.put_eight.ensures in
    eight_read g.T.Destination c.args.src.now c.units_of.result c.loop-at.at c.free.result (λ k. (c.type_inv.src k).fits) c.loop-at-test.true
    c.units_of.ensures.count c.units_of.ensures.same c.loop-at.invariant c.free.ensures c.if-free.true e.contents e.room e.loan

pub loop-at-init : goal.loop-at-init
loop-at-init g c = reads_none g.T.Destination _ c.args.src.now c.args.dst.now

pub returns-then-not-has_past_ascii : goal.returns-then-not-has_past_ascii
returns-then-not-has_past_ascii g c = c.loop-at.invariant

pub returns-else-free : goal.returns-else-free
returns-else-free g c = c.loop-at.invariant

pub returns-after-loop-at : goal.returns-after-loop-at
returns-after-loop-at g c = c.loop-at.invariant
