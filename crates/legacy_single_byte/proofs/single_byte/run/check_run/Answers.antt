use Rattle.std.proofs.Common.{arith, rules}
use Rattle.legacy_single_byte.proofs.single_byte.run.check_run.Goals as goal

pub first_mismatch-requires-clause-start : goal.first_mismatch-requires-clause-start
first_mismatch-requires-clause-start c = omega arith

pub returns-in-Some-clause-fault : goal.returns-in-Some-clause-fault
returns-in-Some-clause-fault c = search rules

pub returns-in-None-clause-fault : goal.returns-in-None-clause-fault
returns-in-None-clause-fault c = search rules

pub returns-in-None-clause-within : goal.returns-in-None-clause-within
returns-in-None-clause-within c = omega arith
