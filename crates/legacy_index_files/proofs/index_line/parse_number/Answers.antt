use Rattle.std.proofs.Common.{◌<◌, ◌+◌, ◌*◌, ◌^◌, arith}
use Rattle.legacy_index_files.proofs.IndexNumbers.{below_power, six_digits, TakesDigit, takes_digit}
use Rattle.std.proofs.lemmas.Grind.{common_steps}
use Rattle.legacy_index_files.proofs.index_line.parse_number.Goals as goal

small_enough : (c : goal.Else-count-eq-MOST_DIGITS) → c.loop-first.value * c.args.radix + c.in-Some-to_digit.digit < 16 ^ (c.loop-first.count + 1)
small_enough c =
    below_power _ c.args.radix _ _ c.loop-first.invariant.small c.requires.high
    (omega (arith, c.in-Some-to_digit.ensures.value.0, c.in-Some-to_digit.ensures.value.1))

pub overflow_mul-value : goal.overflow_mul-value
overflow_mul-value c = omega (arith, small_enough c, six_digits c.loop-first.count (omega arith))

pub overflow_add-value : goal.overflow_add-value
overflow_add-value c = omega (arith, small_enough c, six_digits c.loop-first.count (omega arith))

taken : (c : goal.Else-count-eq-MOST_DIGITS) → TakesDigit c.args.radix c.loop-first.value c.in-Some-to_digit.digit c.loop-first.rest.now c.in-Some.after.now
taken c = takes_digit _ _ _ _ _ _ c.in-Some.ensures.cases.0 c.in-Some-to_digit.ensures.value.0 c.in-Some-to_digit.ensures.value.1

pub loop-first-preserved : goal.loop-first-preserved
loop-first-preserved c = grind (arith, small_enough c, taken c)

pub returns-then-count-eq-MOST_DIGITS : goal.returns-then-count-eq-MOST_DIGITS
returns-then-count-eq-MOST_DIGITS c = grind (arith, common_steps)

pub returns-then-count-eq0 : goal.returns-then-count-eq0
returns-then-count-eq0 c = grind (arith, common_steps)

pub returns-else-count-eq0 : goal.returns-else-count-eq0
returns-else-count-eq0 c = grind (arith, common_steps)
