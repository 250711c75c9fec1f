use Rattle.std.proofs.Common.{◌≡◌, ◌-◌, ◌+◌, ◌*◌, ◌≤◌, take, true}
use Rattle.legacy_text.specs.ShortScalars.{WritesScalars}
use Rattle.legacy_text.proofs.short_scalars.put_turn.Given as goal

-- k scalars are written, if each has a byte
abbrev pub invariant-loop-k : goal.invariant-loop-k
invariant-loop-k g l = (l.k ≤ 8)
    × (l.place ≤ l.start + 2 * l.k)
    × (take l.at l.dst ≡ take l.at l.fn.dst)
    × (l.is_known ≡ true → WritesScalars (g.C.UnitCodes.gives l.codes) l.bytes l.start l.k l.place (take l.at l.fn.dst) (take (l.at + l.k) l.dst))

abbrev pub decreases-loop-k : goal.decreases-loop-k
decreases-loop-k g l = 8 - l.k
