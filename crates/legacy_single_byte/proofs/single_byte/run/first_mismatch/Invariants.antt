use Rattle.std.proofs.Common.{◌≡◌, ◌+◌, ◌<◌, ℕ, get_or}
use Rattle.legacy_single_byte.proofs.single_byte.run.first_mismatch.Given as goal

-- the places before have the scalars of the run
abbrev pub invariant-loop-k : goal.invariant-loop-k
invariant-loop-k l = (j : ℕ) → j < l.k → get_or l.table.entries (l.start + j) 0 ≡ l.scalar + j
