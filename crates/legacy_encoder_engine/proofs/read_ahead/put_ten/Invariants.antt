use Rattle.std.proofs.Common.{◌≡◌, ◌-◌, ◌+◌, ◌*◌, ◌≤◌, length, take, true}
use Rattle.legacy_encoder_engine.specs.WrittenUnits.{PutsUnits}
use Rattle.legacy_encoder_engine.proofs.read_ahead.put_ten.Given as goal

-- k code units are written, if all of them are known
abbrev pub invariant-loop-k : goal.invariant-loop-k
invariant-loop-k g l = (l.k ≤ 10)
    × (l.start + l.k ≤ l.end)
    × (l.end ≤ l.start + 2 * l.k)
    × (take l.start l.dst ≡ take l.start l.fn.dst)
    × (l.is_known ≡ true → PutsUnits (g.C.AheadCodes.state l.codes) (length l.fn.dst) (take l.k l.units) (take l.start l.fn.dst) (take l.end l.dst))

abbrev pub decreases-loop-k : goal.decreases-loop-k
decreases-loop-k g l = 10 - l.k
