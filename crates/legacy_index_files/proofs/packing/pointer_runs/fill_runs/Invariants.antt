use Rattle.std.proofs.Common.{◌≤◌, ◌-◌}
use Rattle.legacy_index_files.proofs.PackingRuns.{AreRunsBelow, AreLongestBelow}
use Rattle.legacy_index_files.proofs.packing.pointer_runs.fill_runs.Given as goal

abbrev pub invariant-loop-pointer : goal.invariant-loop-pointer
invariant-loop-pointer g l = record {
  within : l.pointer ≤ l.end;
  longest : AreLongestBelow l.end l.pointer (g.E.Entry.numbers l.index) l.runs.items;
  runs : AreRunsBelow l.pointer (g.E.Entry.numbers l.index) l.runs.items;
}

abbrev pub decreases-loop-pointer : goal.decreases-loop-pointer
decreases-loop-pointer g l = l.end - l.pointer
