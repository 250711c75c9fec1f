use Rattle.std.proofs.Common.{arith}
use Rattle.legacy_streams.specs.LineBuffers.{line_bytes}
use Rattle.legacy_streams.proofs.EventLines.{no_malformed_lines, more_malformed_lines}
use Rattle.legacy_streams.proofs.lines.LineBuffer.push_malformed_bytes.Goals as goal

pub hundreds-init : goal.hundreds-init
hundreds-init c = record { within = omega arith; room = omega arith; text = no_malformed_lines (line_bytes c.args.self.now) c.args.place }

pub hundreds-preserved : goal.hundreds-preserved
hundreds-preserved c = grind (arith, more_malformed_lines)
