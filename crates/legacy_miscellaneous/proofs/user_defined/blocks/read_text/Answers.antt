use Rattle.legacy_decoder_engine.proofs.JoinedReads.{reads_more}
use Rattle.legacy_miscellaneous.proofs.user_defined.blocks.read_text.Goals as goal

pub returns : goal.returns
returns g c = reads_more (reads_more (reads_more c.read_blocks-at.ensures c.read_ascii_block.ensures) c.read_eights.ensures) c.read_few.ensures
