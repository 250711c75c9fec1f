use Rattle.std.proofs.Common.{◌∙◌, arith}
use Rattle.{legacy_decoder_engine.proofs.WrittenReads.four_fit, legacy_miscellaneous.proofs.Utf16Ahead.reads_unit}
use Rattle.legacy_miscellaneous.proofs.utf16.unit_blocks.Units.read_scalar.Goals as goal

pub put-requires : goal.put-requires
put-requires g c = four_fit g.T.Destination.form c.in-Some.scalar _ (omega (arith, c.requires.room))

pub returns-in-Some : goal.returns-in-Some
returns-in-Some g c =
    let value = c.in-Some.ensures.value in
    let e = c.put.ensures in
    reads_unit g.T.Destination _ c.args.src.now c.in-Some.scalar c.args.dst.now _ (λ k. (c.type_inv.src k).fits) c.requires.source (rw value.1 value.0)
    (value.1 ∙ c.from.ensures ∙ c.unit-unit.ensures) c.requires.room e.contents e.room e.loan
