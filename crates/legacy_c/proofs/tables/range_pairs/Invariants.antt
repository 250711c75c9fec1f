use Rattle.std.proofs.Common.{◌≡◌, ◌-◌, ◌≤◌, length, take, map}
use Rattle.legacy_c.specs.Lists.{range_pair}
use Rattle.legacy_c.proofs.tables.range_pairs.Given as goal

-- the ranges that were passed are pairs
abbrev pub invariant-loop-place : goal.invariant-loop-place
invariant-loop-place l = (l.place ≤ length l.ranges) × (length l.pairs ≡ 256) × (take l.place l.pairs ≡ map range_pair (take l.place l.ranges))

abbrev pub decreases-loop-place : goal.decreases-loop-place
decreases-loop-place l = length l.ranges - l.place
