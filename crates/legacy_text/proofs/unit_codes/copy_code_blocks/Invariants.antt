use Rattle.std.proofs.Common.{ℕ, ◌+◌, ◌-◌, ◌<◌, ◌≤◌, length, take, get_or}
use Rattle.legacy_text.specs.UnitCodes.{IsNoSurrogate, WritesCodes}
use Rattle.legacy_text.proofs.unit_codes.copy_code_blocks.Given as goal

-- the code units passed are written
abbrev pub invariant-loop-copied : goal.invariant-loop-copied
invariant-loop-copied g l = (l.copied ≤ length l.units)
    × (l.copied ≤ l.most)
    × ((k : ℕ) → k < l.copied → IsNoSurrogate (get_or l.units k 0))
    × WritesCodes (g.C.UnitCodes.gives l.codes) l.units l.copied (take l.at l.fn.dst) (take (l.at + l.copied) l.dst)

abbrev pub decreases-loop-copied : goal.decreases-loop-copied
decreases-loop-copied g l = length l.units - l.copied
