use Rattle.std.proofs.Common.{◌≡◌, ◌-◌, ◌^◌, ◌<◌, ◌≤◌, length, take}
use Rattle.legacy_text.proofs.ScalarTurns.{StandsAfter}
use Rattle.legacy_text.proofs.scalar_turns.ten_scalars.Given as goal

-- k code units are read, unless there are no more bits
abbrev pub invariant-loop-k : goal.invariant-loop-k
invariant-loop-k l = (l.k ≤ 10) × (length l.units ≡ 10) × (l.bits < 2 ^ 32) × (0 < l.bits → StandsAfter l.bytes l.start (take l.k l.units) l.bits)

abbrev pub decreases-loop-k : goal.decreases-loop-k
decreases-loop-k l = 10 - l.k
