use Rattle.std.proofs.Common.{arith, refl, ◌/◌, ◌%◌}
use Rattle.legacy_streams.proofs.FourDigitLines.{head_number, tail_number, heads_are, tails_are, parts_fit, line_of_parts}
use Rattle.legacy_streams.proofs.lines.four_digit_line.Goals as goal

pub overflow_add-head : goal.overflow_add-head
overflow_add-head c =
    let head = c.entry-head.ensures head_number heads_are in
    let tail = c.entry-tail.ensures tail_number tails_are in
    omega (arith, head, tail, parts_fit (c.args.unit / 256) (c.args.unit % 256))

pub returns : goal.returns
returns c =
    line_of_parts c.args.unit _ c.to_le_bytes.result (omega arith)
    (rw (c.entry-head.ensures head_number heads_are, c.entry-tail.ensures tail_number tails_are) refl) c.to_le_bytes.ensures
