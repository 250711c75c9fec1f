use Rattle.std.proofs.Common.{◌≡◌, ℕ, ◌+◌, ◌-◌, ◌*◌, ◌<◌, ◌≤◌, length, get_or}
use Rattle.legacy_text.specs.ScalarTurns.{IsUnitAt}
use Rattle.legacy_text.proofs.scalar_turns.parts_at.Given as goal

-- the code units of the places passed are in the lists
abbrev pub invariant-loop-k : goal.invariant-loop-k
invariant-loop-k l =
    (l.k ≤ 16) × (length l.lows ≡ 16) × (length l.highs ≡ 16)
    × ((j : ℕ) → j < l.k → IsUnitAt l.bytes (l.place + j) (get_or l.lows j 0 + 256 * get_or l.highs j 0))

abbrev pub decreases-loop-k : goal.decreases-loop-k
decreases-loop-k l = 16 - l.k
