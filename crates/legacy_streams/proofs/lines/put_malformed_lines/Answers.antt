use Rattle.std.proofs.Common.{arith}
use Rattle.legacy_streams.proofs.EventLines.{no_malformed_lines, one_malformed_line, more_malformed_lines}
use Rattle.legacy_streams.proofs.lines.put_malformed_lines.Goals as goal

pub lines-init : goal.lines-init
lines-init c = grind (arith, no_malformed_lines)

pub lines-preserved : goal.lines-preserved
lines-preserved c = grind (arith, more_malformed_lines, one_malformed_line)
