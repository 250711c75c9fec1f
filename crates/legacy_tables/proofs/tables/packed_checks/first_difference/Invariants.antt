use Rattle.std.proofs.Common.{◌≡◌, ℕ, ◌<◌, false}
use Rattle.legacy_tables.specs.{Packed.differs_at, RunOrder.IsFirstAfter}
use Rattle.legacy_tables.proofs.tables.packed_checks.first_difference.Given as goal

-- no difference up to here, and the place is that of the pointer
abbrev pub invariant-loop-pointer : goal.invariant-loop-pointer
invariant-loop-pointer g l = record {
  none : (k : ℕ) → k < l.pointer → differs_at l.runs.runs.now (g.N.Numbers.numbers l.index) k ≡ false;
  place : IsFirstAfter l.runs.runs.now l.place l.pointer;
}
