use Rattle.std.proofs.Common.{◌≡◌, length}
use Rattle.legacy_tables.specs.PointerSets.{HasOnly}
use Rattle.legacy_tables.proofs.tables.pointer_set.PointerSet.of.Given as goal

-- the set has only pointers of the order
abbrev pub invariant-loop-entry : goal.invariant-loop-entry
invariant-loop-entry l = record {
  count : length l.blocks ≡ 375;
  own : HasOnly l.blocks l.order;
}
