use Rattle.std.{proofs.Common.{◌≡◌, ◌∙◌, arith}}
use Rattle.legacy_decoder_engine.proofs.{JoinedReads.reads_written, WrittenReads.writes_none}
use Rattle.legacy_miscellaneous.proofs.Utf16Ahead.{few_fit, few_more}
use Rattle.legacy_miscellaneous.proofs.utf16.unit_blocks.Units.read_few.Goals as goal

pub loop-at-init : goal.loop-at-init
loop-at-init g c = record { within = omega arith; room = omega arith; writes = writes_none g.T.Destination _ c.args.dst.now }

pub from_u32_unchecked-requires : goal.from_u32_unchecked-requires
from_u32_unchecked-requires g c = rw (c.from.ensures, c.unit-unit.ensures) (c.requires.scalars c.loop-at.at c.loop-at-test.true)

pub put-requires : goal.put-requires
put-requires g c =
    few_fit c.loop-at.invariant c.requires.source c.requires.count c.requires.room c.loop-at-test.true (λ k. (c.type_inv.src k).fits) _
    (c.from_u32_unchecked.ensures ∙ c.from.ensures ∙ c.unit-unit.ensures)

pub loop-at-preserved : goal.loop-at-preserved
loop-at-preserved g c =
    let e = c.put.ensures in
    let is = c.from_u32_unchecked.ensures ∙ c.from.ensures ∙ c.unit-unit.ensures in
    few_more c.loop-at.invariant c.requires.source c.requires.count c.requires.room c.loop-at-test.true (λ k. (c.type_inv.src k).fits)
    c.from_u32_unchecked.result is (rw is (c.requires.scalars c.loop-at.at c.loop-at-test.true)) e.contents e.room e.loan

pub returns : goal.returns
returns g c =
    let before = c.loop-at.invariant in
    let all : c.loop-at.at ≡ c.args.count = omega (arith, before.within, c.loop-at-test.false) in
    record {
      all = cc;
      room = omega (arith, before.room, before.within, c.requires.count);
      ahead = reads_written (omega (arith, c.requires.source, c.requires.count)) (rw all at before.writes)
          (omega (arith, before.room, before.within, c.requires.count, c.requires.room)) (omega (arith, c.requires.room));
    }
