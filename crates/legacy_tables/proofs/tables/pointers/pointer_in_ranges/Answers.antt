use Rattle.std.proofs.Common.{◌≤◌, ◌-◌, length, refl, arith}
use Rattle.legacy_tables.proofs.RangePointers.{pointer-before, pointer-past, pointer-fixed, pointer-found}
use Rattle.legacy_tables.proofs.tables.pointers.pointer_in_ranges.Goals as goal

pub returns-then-count-eq0 : goal.returns-then-count-eq0
returns-then-count-eq0 c = grind (arith, pointer-before)

pub returns-then-pointer-from : goal.returns-then-pointer-from
returns-then-pointer-from c =
    let e = c.ranges_up_to-count.ensures in
    let within : c.ranges_up_to-count.result ≤ length c.args.ranges.now = e.within in
    pointer-past c.args.ranges.now c.requires.ordered _ c.requires.narrow c.requires.free (c.ranges_up_to-count.result - 1) (omega arith)
    (e.reached _ (omega arith)) (λ k l h. e.ahead k (omega arith) h) _ (rw (c.from.ensures, c.from-2.ensures) refl)
    (rw (c.from-3.ensures, c.end_of.ensures) at c.if-pointer-from.true)

pub returns-then-pointer-eq-E7C7_POINTER : goal.returns-then-pointer-eq-E7C7_POINTER
returns-then-pointer-eq-E7C7_POINTER c =
    let e = c.ranges_up_to-count.ensures in
    let within : c.ranges_up_to-count.result ≤ length c.args.ranges.now = e.within in
    pointer-fixed c.args.ranges.now c.requires.ordered _ c.requires.narrow c.requires.free (c.ranges_up_to-count.result - 1) (omega arith)
    (e.reached _ (omega arith)) (λ k l h. e.ahead k (omega arith) h) _ (rw (c.from.ensures, c.from-2.ensures) refl) c.if-pointer-eq-E7C7_POINTER.true

pub returns : goal.returns
returns c =
    let e = c.ranges_up_to-count.ensures in
    let within : c.ranges_up_to-count.result ≤ length c.args.ranges.now = e.within in
    pointer-found c.args.ranges.now c.requires.ordered _ c.requires.narrow c.requires.free (c.ranges_up_to-count.result - 1) (omega arith)
    (e.reached _ (omega arith)) (λ k l h. e.ahead k (omega arith) h) _ (rw (c.from.ensures, c.from-2.ensures) refl)
    (rw (c.from-3.ensures, c.end_of.ensures) at c.if-pointer-from.false) c.if-pointer-eq-E7C7_POINTER.false
