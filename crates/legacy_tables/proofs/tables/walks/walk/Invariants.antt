use Rattle.std.proofs.Common.{◌≤◌, ◌-◌, length}
use Rattle.legacy_tables.specs.Walks.{IsFilledBelow}
use Rattle.legacy_tables.proofs.tables.walks.walk.Given as goal

-- the list has the marks of the pointers passed
abbrev pub invariant-loop-pointer : goal.invariant-loop-pointer
invariant-loop-pointer g l = record {
  within : l.pointer ≤ length (g.N.Numbers.numbers l.index);
  filled : IsFilledBelow l.part g.M.Marks.mark (g.N.Numbers.numbers l.index) l.pointer l.entries;
  at : g.N.Numbers.is_at l.index l.place l.pointer;
}

abbrev pub decreases-loop-pointer : goal.decreases-loop-pointer
decreases-loop-pointer g l = length (g.N.Numbers.numbers l.index) - l.pointer
