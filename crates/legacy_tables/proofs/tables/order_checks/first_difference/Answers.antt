use Rattle.std.proofs.Common.{◌≡◌, ◌∙◌, sym, arith, false, length}
use borrow.Author.Count.{below_more}
use Rattle.legacy_tables.specs.Packed.{is_lacking, order_difference}
use Rattle.legacy_tables.proofs.FirstPlaces.{find-some, find-none}
use Rattle.legacy_tables.proofs.tables.order_checks.first_difference.Goals as goal

pub returns-then-lacks : goal.returns-then-lacks
unfolding order_difference
returns-then-lacks g c =
    grind (
      arith,
      find-some (is_lacking c.args.part (g.E.Entry.numbers c.args.index.now) c.args.order.now) 0
          (length (g.E.Entry.numbers c.args.index.now)) c.loop-pointer.pointer,
    )

pub loop-pointer-preserved : goal.loop-pointer-preserved
loop-pointer-preserved g c =
    below_more (λ k. is_lacking c.args.part (g.E.Entry.numbers c.args.index.now) c.args.order.now k ≡ false) c.loop-pointer.pointer
    c.loop-pointer.invariant (sym c.lacks.ensures ∙ c.if-lacks.false)

pub returns : goal.returns
unfolding order_difference
returns g c =
    grind (arith, find-none (is_lacking c.args.part (g.E.Entry.numbers c.args.index.now) c.args.order.now) 0 (length (g.E.Entry.numbers c.args.index.now)))
