use Rattle.std.proofs.Common.{◌≡◌, ℕ, ◌<◌, false}
use Rattle.legacy_tables.specs.Packed.{is_lacking}
use Rattle.legacy_tables.proofs.tables.order_checks.first_difference.Given as goal

-- no scalar is missing up to here
abbrev pub invariant-loop-pointer : goal.invariant-loop-pointer
invariant-loop-pointer g l = (k : ℕ) → k < l.pointer → is_lacking l.part (g.E.Entry.numbers l.index) l.order k ≡ false
