use Rattle.std.proofs.Common.{arith}
use Rattle.{legacy_decoder_engine.proofs.WrittenReads.all_short, legacy_single_byte.proofs.SingleByteAhead.{entry_below, units_are_scalars, reads_entries}}
use Rattle.legacy_single_byte.proofs.single_byte.blocks.AnyBytesParts.read_part.Goals as goal

pub put_units-requires-clause-scalars : goal.put_units-requires-clause-scalars
put_units-requires-clause-scalars g c =
    let units = c.units-units.ensures in
    units_are_scalars c.args.self.now.scalars.now.table.now c.args.src.now _ 8 (λ k. (c.type_inv.src k).fits) units.same units.count

pub returns-clause-ahead : goal.returns-clause-ahead
returns-clause-ahead g c =
    let table = c.args.self.now.scalars.now.table.now in
    let units = c.units-units.ensures in
    let e = c.put_units.ensures in
    let few = all_short g.T.Destination.form c.units-units.result (λ k h. (entry_below table _ _ (units.same k (omega arith))).0) in
    reads_entries table c.args.src.now _ 8 (λ k. (c.type_inv.src k).fits) units.same g.T.Destination _ _
    (λ k h past. c.are_known.ensures c.if-not-are_known.false k h) (omega arith) units.count e.contents e.room e.loan (omega (arith, few)) (omega arith)
