use Rattle.std.proofs.Common.{◌∙◌, sym, arith}
use Rattle.legacy_decoder_engine.proofs.JoinedReads.{reads_first}
use Rattle.legacy_miscellaneous.proofs.utf16.unit_blocks.Units.read_vectors.Goals as goal

pub read_sixteens-read-requires : goal.read_sixteens-read-requires
read_sixteens-read-requires g c = sym c.narrow.ensures ∙ c.if-narrow-eq1.true

pub returns-else-read-gt0 : goal.returns-else-read-gt0
returns-else-read-gt0 g c = reads_first (omega arith) c.read_sixteens-read.ensures c.read_eight.ensures
