use Rattle.std.proofs.Common.{◌≡◌, drop}
use Rattle.legacy_tables.specs.TableChecks.{entries_fault}
use Rattle.legacy_tables.proofs.tables.checks.check_entries.Given as goal

-- no fault up to here
abbrev pub invariant-loop-pointer : goal.invariant-loop-pointer
invariant-loop-pointer g l =
    entries_fault l.name 0 (g.N.Numbers.numbers l.index) ≡ entries_fault l.name l.pointer (drop l.pointer (g.N.Numbers.numbers l.index))
