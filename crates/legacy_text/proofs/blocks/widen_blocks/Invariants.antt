use Rattle.std.proofs.Common.{◌≡◌, ◌+◌, ◌-◌, ◌≤◌, ◌++◌, length, take, IsAscii}
use Rattle.legacy_text.proofs.blocks.widen_blocks.Given as goal

-- the bytes passed are copied, and are ASCII
abbrev pub invariant-loop-copied : goal.invariant-loop-copied
invariant-loop-copied l = (l.copied ≤ l.most)
    × IsAscii (take l.copied l.bytes)
    × (take (l.at + l.copied) l.dst ≡ take l.at l.fn.dst ++ take l.copied l.bytes)

abbrev pub decreases-loop-copied : goal.decreases-loop-copied
decreases-loop-copied l = l.most - l.copied
