use Rattle.std.proofs.Common.{◌≤◌, ◌-◌, length, take, IsAscii}
use Rattle.legacy_single_byte.proofs.single_byte.decoder.ascii_blocks.Given as goal

-- the first `count` bytes are ASCII
abbrev pub invariant-loop-count : goal.invariant-loop-count
invariant-loop-count l = (l.count ≤ length l.bytes) × IsAscii (take l.count l.bytes)

abbrev pub decreases-loop-count : goal.decreases-loop-count
decreases-loop-count l = length l.bytes - l.count
