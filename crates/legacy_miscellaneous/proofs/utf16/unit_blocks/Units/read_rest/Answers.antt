use Rattle.std.proofs.Common.{arith}
use Rattle.legacy_decoder_engine.proofs.JoinedReads.{reads_first}
use Rattle.legacy_miscellaneous.proofs.utf16.unit_blocks.Units.read_rest.Goals as goal

pub returns-then-is_clear-clause-ahead : goal.returns-then-is_clear-clause-ahead
returns-then-is_clear-clause-ahead g c = reads_first (omega arith) c.read_blocks-read.ensures c.read_singly.ensures
