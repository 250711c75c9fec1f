use Rattle.std.proofs.Common.{arith}
use Rattle.legacy_tables.proofs.PrivateUse.{row-end, row-other, row-found}
use Rattle.legacy_tables.proofs.tables.private_use.searched_bytes.Goals as goal

pub returns-then-place-rows : goal.returns-then-place-rows
returns-then-place-rows c = grind (arith, row-end)

pub returns-then-from : goal.returns-then-from
returns-then-from c = grind (arith, row-other)

pub returns : goal.returns
returns c = grind (arith, row-found)
