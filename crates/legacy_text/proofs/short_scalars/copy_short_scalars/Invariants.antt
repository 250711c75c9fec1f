use Rattle.std.proofs.Common.{◌-◌, ◌+◌, ◌≤◌, length, take}
use Rattle.legacy_text.specs.ShortScalars.{WritesScalars}
use Rattle.legacy_text.proofs.short_scalars.copy_short_scalars.Given as goal

-- the scalars passed are written
abbrev pub invariant-loop-place : goal.invariant-loop-place
invariant-loop-place g l = (l.at + l.copied ≤ length l.dst)
    × WritesScalars (g.C.UnitCodes.gives l.codes) l.bytes l.start l.copied l.place (take l.at l.fn.dst) (take (l.at + l.copied) l.dst)

abbrev pub decreases-loop-place : goal.decreases-loop-place
decreases-loop-place g l = length l.dst - l.copied
