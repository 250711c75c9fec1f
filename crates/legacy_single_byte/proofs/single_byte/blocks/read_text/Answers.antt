use Rattle.legacy_decoder_engine.proofs.{JoinedReads.reads_more, WrittenReads.reads_none}
use Rattle.legacy_single_byte.proofs.single_byte.blocks.read_text.Goals as goal

pub returns : goal.returns
returns g c = reads_more (reads_more c.read_parts-at.ensures.ahead c.read_last.ensures) c.read_singly.ensures.ahead

pub returns-then-src-lt2 : goal.returns-then-src-lt2
returns-then-src-lt2 g c = reads_none _ _ _ _
