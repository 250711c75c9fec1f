use Rattle.std.proofs.{Common.arith, lemmas.Grind.common_steps}
use Rattle.legacy_index_files.proofs.owned_indexes.OwnedIndexes.set.Goals as goal

pub returns-then-eq-3-clause-place : goal.returns-then-eq-3-clause-place
returns-then-eq-3-clause-place c = grind (arith, common_steps)

pub returns-then-eq-3-clause-texts : goal.returns-then-eq-3-clause-texts
returns-then-eq-3-clause-texts c = grind (arith, common_steps)

pub returns-in-Narrow-clause-texts : goal.returns-in-Narrow-clause-texts
returns-in-Narrow-clause-texts c = grind (arith, common_steps)

pub returns-then-eq-clause-texts : goal.returns-then-eq-clause-texts
returns-then-eq-clause-texts c = grind (arith, common_steps)

pub returns-else-eq-clause-texts : goal.returns-else-eq-clause-texts
returns-else-eq-clause-texts c = grind (arith, common_steps)

pub returns-then-eq-2-clause-texts : goal.returns-then-eq-2-clause-texts
returns-then-eq-2-clause-texts c = grind (arith, common_steps)

pub returns-else-eq-2-clause-texts : goal.returns-else-eq-2-clause-texts
returns-else-eq-2-clause-texts c = grind (arith, common_steps)

pub returns-else-eq-3-clause-texts : goal.returns-else-eq-3-clause-texts
returns-else-eq-3-clause-texts c = grind (arith, common_steps)
