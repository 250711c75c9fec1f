use Rattle.std.proofs.Common.{◌≡◌, ℕ, ◌-◌, ◌<◌, ◌≤◌, length, get_or}
use Rattle.legacy_text.specs.UnitCodes.{IsNoSurrogate}
use Rattle.legacy_text.proofs.unit_codes.code_block.Given as goal

-- the code units passed are in the blocks
abbrev pub invariant-loop-k : goal.invariant-loop-k
invariant-loop-k g l =
    (l.k ≤ 16) × (length l.bytes ≡ 16) × (length l.marks ≡ 16)
    × ((j : ℕ) → j < l.k → get_or l.marks j 0 < 0x80 → IsNoSurrogate (get_or l.units j 0) × g.C.UnitCodes.gives l.codes (get_or l.units j 0)
    (get_or l.bytes j 0))

abbrev pub decreases-loop-k : goal.decreases-loop-k
decreases-loop-k g l = 16 - l.k
