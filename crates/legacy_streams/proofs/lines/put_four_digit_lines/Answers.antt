use Rattle.std.proofs.Common.{arith}
use Rattle.legacy_streams.proofs.{EventLines.no_lines, FourDigitLines.{four_digit_more, four_digit_line_more}}
use Rattle.legacy_streams.proofs.lines.put_four_digit_lines.Goals.{else-unit-ge55296-via-then-unit-ge55296+else-unit-lt57344}
use Rattle.legacy_streams.proofs.lines.put_four_digit_lines.Goals.{else-unit-ge55296-via-else-unit-ge55296}
use Rattle.legacy_streams.proofs.lines.put_four_digit_lines.Goals as goal

pub lines-init : goal.lines-init
lines-init c = grind (arith, no_lines)

pub lines-preserved : goal.lines-preserved
lines-preserved c =
    grind (arith, else-unit-ge55296-via-then-unit-ge55296+else-unit-lt57344, else-unit-ge55296-via-else-unit-ge55296, four_digit_line_more, four_digit_more)
