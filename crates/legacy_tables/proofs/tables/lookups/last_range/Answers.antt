use Rattle.std.proofs.{lemmas.Bool.Decides.nat_tests, Common.{◌-◌, arith}}
use Rattle.legacy_tables.proofs.Accepted.{IsGiven, last-none, last-at, last_range-narrow}
use Rattle.legacy_tables.proofs.tables.lookups.last_range.Goals as goal

pub returns-then-count-eq0 : goal.returns-then-count-eq0
returns-then-count-eq0 c = grind (arith, last-none)

pub overflow_sub-unit : goal.overflow_sub-unit
overflow_sub-unit c = grind (arith, c.started_count-count.ensures.started (c.started_count-count.result - 1))

pub overflow_add-unit : goal.overflow_add-unit
overflow_add-unit c =
    let e = c.started_count-count.ensures in
    let is : IsGiven c.args.ranges.now c.args.pointer (c.started_count-count.result - 1) = grind (arith, e.started, e.ahead) in
    grind (arith, last_range-narrow 0 _ c.requires.valued c.args.pointer _ c.requires.reached (last-at _ _ _ is))

pub from_u32_unchecked-requires : goal.from_u32_unchecked-requires
from_u32_unchecked-requires c =
    grind (arith, nat_tests, last-at c.args.ranges.now c.args.pointer (c.started_count-count.result - 1), last_range-narrow 0 c.args.ranges.now)

pub returns : goal.returns
returns c = grind (arith, nat_tests, last-at c.args.ranges.now c.args.pointer (c.started_count-count.result - 1))
