use Rattle.std.proofs.Common.{arith}
use Rattle.legacy_single_byte.proofs.LongestRuns.{grown, begun}
use Rattle.legacy_single_byte.proofs.single_byte.run.run_to.Goals as goal

-- a new run starts at the place
pub returns-then-scalar-from : goal.returns-then-scalar-from
returns-then-scalar-from c = begun c.requires.before (grind arith) (grind arith) (omega arith)

-- the run continues
pub returns : goal.returns
returns c = grown c.requires.before (grind arith) (grind arith)
