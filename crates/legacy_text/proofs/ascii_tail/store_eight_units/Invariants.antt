use Rattle.std.proofs.Common.{◌≡◌, ℕ, ◌-◌, ◌<◌, ◌≤◌, length, get_or}
use Rattle.legacy_text.proofs.ascii_tail.store_eight_units.Given as goal

-- the code units passed are in the block
abbrev pub invariant-loop-k : goal.invariant-loop-k
invariant-loop-k l = (l.k ≤ 8) × (length l.narrow ≡ 8) × ((j : ℕ) → j < l.k → get_or l.narrow j 0 < 0x80 → get_or l.narrow j 0 ≡ get_or l.units j 0)

abbrev pub decreases-loop-k : goal.decreases-loop-k
decreases-loop-k l = 8 - l.k
