use Rattle.std.{proofs.Common.{◌≡◌, ◌-◌, ◌<◌, ◌≤◌, ℕ, false, get_or, length}, specs.Char.IsScalar}
use Rattle.legacy_miscellaneous.proofs.utf16.unit_blocks.has_surrogate.Given as goal

-- the units before `at` are scalars, unless a surrogate was found
abbrev pub invariant-loop-at : goal.invariant-loop-at
invariant-loop-at l = (l.at ≤ length l.units) × (l.found ≡ false → (k : ℕ) → k < l.at → IsScalar (get_or l.units k 0))

abbrev pub decreases-loop-at : goal.decreases-loop-at
decreases-loop-at l = length l.units - l.at
