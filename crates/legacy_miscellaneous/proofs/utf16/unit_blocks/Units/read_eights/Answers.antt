use Rattle.std.{proofs.{Common.{◌≡◌, ◌<◌, arith}, lemmas.List.Elements.All-from_get_or}, specs.Char.IsScalar}
use Rattle.legacy_decoder_engine.proofs.{JoinedReads.{reads_front, reads_written}, WrittenReads.writes_none}
use Rattle.legacy_miscellaneous.proofs.Utf16Ahead.{below_scalar, eight_more, short_eight}
use Rattle.legacy_miscellaneous.proofs.utf16.unit_blocks.Units.read_eights.Goals.{then-is_short, else-is_short+else-has_surrogate}
use Rattle.legacy_miscellaneous.proofs.utf16.unit_blocks.Units.read_eights.Goals as goal

pub put_eight_short-requires : goal.put_eight_short-requires
put_eight_short-requires g c =
    let units = c.eight_units-units.result in
    let short = short_eight _ _ _ c.loop-group.group _ (c.requires.short c.if-is_short.true) c.loop-group-test.true c.eight_units-units.ensures in
    grind (arith, below_scalar, All-from_get_or IsScalar units 0, All-from_get_or (λ u. u < 0x800) units 0, short)

pub put_eight-requires-clause-scalars : goal.put_eight-requires-clause-scalars
put_eight-requires-clause-scalars g c = All-from_get_or IsScalar c.eight_units-units.result 0 (c.has_surrogate.ensures c.if-has_surrogate.false)

pub loop-group-preserved : goal.loop-group-preserved
loop-group-preserved g c =
    let units = c.eight_units-units in
    elim c.if-is_short.branch [
      | then-is_short w ↦
          let e = w.put_eight_short.ensures in
          let short = short_eight _ _ _ c.loop-group.group _ (c.requires.short w.if-is_short.true) c.loop-group-test.true units.ensures in
          rw w.dst-is (eight_more units.result (λ k. (c.type_inv.src k).fits) c.requires.source c.loop-group-test.true (omega arith) c.loop-group.invariant
          (λ k h. (units.ensures k h, below_scalar _ (short k h))) e.contents e.room e.loan)
      | else-is_short+else-has_surrogate w ↦
          let e = w.put_eight.ensures in
          rw w.dst-is (eight_more units.result (λ k. (c.type_inv.src k).fits) c.requires.source c.loop-group-test.true (omega arith) c.loop-group.invariant
          (λ k h. (units.ensures k h, w.has_surrogate.ensures w.if-has_surrogate.false k (omega arith))) e.contents e.room e.loan)
    ]

pub returns-then-has_surrogate : goal.returns-then-has_surrogate
returns-then-has_surrogate g c =
    let before = c.loop-group.invariant in
    let few = c.loop-group-test.true in
    reads_written (omega (arith, c.requires.source, few)) before.writes (omega (arith, before.room, c.requires.room, few)) (omega (arith, c.requires.room, few))

pub loop-group-init : goal.loop-group-init
loop-group-init g c = record { within = omega arith; room = omega arith; writes = writes_none g.T.Destination _ c.args.dst.now }

pub returns : goal.returns
returns g c =
    let before = c.loop-group.invariant in
    let all : c.loop-group.group ≡ c.args.eights = omega (arith, before.within, c.loop-group-test.false) in
    reads_front (omega (arith, c.requires.source)) (rw all at before.writes) (λ h. omega (arith, before.room, before.within, c.requires.room, h))
    (λ h. omega (arith, c.requires.room, h))
