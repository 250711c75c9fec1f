use Rattle.std.proofs.Common.{arith}
use Rattle.legacy_tables.proofs.TableLoops.{fault_steps}
use Rattle.legacy_tables.proofs.tables.checks.check_short_lists.Goals as goal

pub returns-in_err-check_katakana : goal.returns-in_err-check_katakana
returns-in_err-check_katakana c = grind (arith, fault_steps)

pub returns-in_err-check_range_order : goal.returns-in_err-check_range_order
returns-in_err-check_range_order c = grind (arith, fault_steps)

pub returns-in_err-check_range_scalars : goal.returns-in_err-check_range_scalars
returns-in_err-check_range_scalars c = grind (arith, fault_steps)

pub returns : goal.returns
returns c = grind arith
