use Rattle.std.proofs.Common.{◌-◌}
use Rattle.{legacy_base.specs.Grammar.single_byte, legacy_single_byte.proofs.SinglyRead.AreSingly}
use Rattle.legacy_single_byte.proofs.single_byte.blocks.read_singly.Given as goal

abbrev pub invariant-loop-at : goal.invariant-loop-at
invariant-loop-at g l = AreSingly g.T.Destination (single_byte l.scalars.table.now.entries) l.src l.most l.at l.fn.dst l.dst

abbrev pub decreases-loop-at : goal.decreases-loop-at
decreases-loop-at g l = l.most - l.at
