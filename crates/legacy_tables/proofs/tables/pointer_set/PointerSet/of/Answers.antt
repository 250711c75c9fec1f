use Rattle.std.proofs.{Common.{◌∙◌, ◌/◌, ◌<◌, ◌≡◌, ◌==◌, arith, eq-eqb, length, length-set, refl, slice_index_or, true}, lemmas.List.Folds.list_any_at}
use Rattle.std.specs.List.{list_any}
use Rattle.legacy_tables.proofs.{PointerSets.{none-yet, only-more}, tables.pointer_set.PointerSet.of.Goals.{then-pointer-lt24000, else-pointer-lt24000}}
use Rattle.legacy_tables.proofs.tables.pointer_set.PointerSet.of.Goals as goal

pub loop-entry-init : goal.loop-entry-init
loop-entry-init c = record { count = refl; own = none-yet 375 c.args.order.now }

pub loop-entry-preserved : goal.loop-entry-preserved
loop-entry-preserved c =
    let order = c.args.order.now in
    let pointer = slice_index_or order c.loop-entry.entry-index 0 in
    let held : list_any (λ r. pointer == r) order ≡ true =
    list_any_at (λ r. pointer == r) order c.loop-entry.entry-index 0 c.loop-entry-test.true (eq-eqb pointer pointer refl) in
    let count = c.loop-entry.invariant.count in
    elim c.if-pointer-lt24000.branch [
      | then-pointer-lt24000 w ↦
          let small : pointer < 24000 = rw c.from-pointer.ensures at w.if-pointer-lt24000.true in
          let within : pointer / 64 < length c.loop-entry.blocks = omega (arith, count) in
          rw (w.blocks-is, c.from-pointer.ensures) (record {
            count = length-set _ _ _ ∙ count;
            own = only-more c.loop-entry.blocks order pointer c.loop-entry.invariant.own within held;
          })
      | else-pointer-lt24000 w ↦ rw w.blocks-is c.loop-entry.invariant
    ]
