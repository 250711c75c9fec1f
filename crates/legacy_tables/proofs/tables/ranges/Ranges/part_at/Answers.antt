use Rattle.std.proofs.{lemmas.Bool.Decides.nat_tests, Common.{◌<◌, length, arith}}
use Rattle.legacy_tables.proofs.RangePointers.{no-part, whole-range, starts-before}
use Rattle.legacy_tables.proofs.tables.ranges.Ranges.part_at.Goals as goal

pub returns-then-place-self-clause-part : goal.returns-then-place-self-clause-part
returns-then-place-self-clause-part c = grind (arith, no-part)

pub overflow_sub-count : goal.overflow_sub-count
overflow_sub-count c = grind (arith, nat_tests, starts-before c.args.self.now.list.now c.args.self.now.ordered c.args.place)

pub returns-clause-part : goal.returns-clause-part
returns-clause-part c =
    let ranges = c.args.self.now.list.now in
    let within : c.args.place < length ranges = omega arith in
    let before = starts-before ranges c.args.self.now.ordered c.args.place within in
    whole-range ranges c.args.self.now.ordered c.args.self.now.valued c.args.place within _ c.from-3.ensures
    (rw (c.from.ensures, c.from-2.ensures, c.from-3.ensures, c.end_of.ensures) (omega (arith, before))) c.from-4.ensures

pub returns-clause-at : goal.returns-clause-at
returns-clause-at c = grind (arith, nat_tests, starts-before)
