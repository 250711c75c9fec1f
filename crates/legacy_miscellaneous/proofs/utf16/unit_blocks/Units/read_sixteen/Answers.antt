use Rattle.std.{proofs.Common.{◌∙◌, arith}, specs.Char.IsScalar}
use Rattle.{legacy_decoder_engine.proofs.WrittenReads.reads_none, legacy_miscellaneous.proofs.Utf16Ahead.{no_units, sixteen_read, unit_fits, unit_more}}
use Rattle.legacy_miscellaneous.proofs.utf16.unit_blocks.Units.read_sixteen.Goals as goal

pub returns-then-has_surrogate : goal.returns-then-has_surrogate
returns-then-has_surrogate g c =
    record { most = omega arith; room = omega arith; ahead = reads_none g.T.Destination _ c.args.src.now c.args.dst.now }

pub loop-at-init : goal.loop-at-init
loop-at-init g c = no_units g.T.Destination c.args.self.now.big_endian c.args.src.now c.args.dst.now

pub from_u32_unchecked-requires : goal.from_u32_unchecked-requires
from_u32_unchecked-requires g c = rw c.from.ensures (c.has_surrogate.ensures c.if-has_surrogate.false c.loop-at.at (omega arith))

pub put-requires : goal.put-requires
put-requires g c =
    let is = c.from_u32_unchecked.ensures ∙ c.from.ensures ∙ c.sixteen_units.ensures c.loop-at.at c.loop-at-test.true in
    unit_fits c.loop-at.invariant c.requires.source c.requires.room c.requires.form c.loop-at-test.true (λ k. (c.type_inv.src k).fits) _ is

pub loop-at-preserved : goal.loop-at-preserved
loop-at-preserved g c =
    let e = c.put.ensures in
    let unit = c.from_u32_unchecked.ensures ∙ c.from.ensures in
    let scalar : IsScalar c.from_u32_unchecked.result = rw unit (c.has_surrogate.ensures c.if-has_surrogate.false c.loop-at.at (omega arith)) in
    unit_more c.loop-at.invariant c.requires.source c.requires.room c.requires.form c.loop-at-test.true (λ k. (c.type_inv.src k).fits)
    c.from_u32_unchecked.result (unit ∙ c.sixteen_units.ensures c.loop-at.at c.loop-at-test.true) scalar e.contents e.room e.loan

pub returns : goal.returns
returns g c = record {
  most = omega arith;
  room = omega (arith, c.loop-at.invariant.room, c.loop-at.invariant.within);
  ahead = sixteen_read c.loop-at.invariant c.requires.source c.requires.room c.loop-at-test.false;
}
