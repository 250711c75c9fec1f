use Rattle.legacy_decoder_engine.proofs.WrittenReads.{reads_none}
use Rattle.legacy_japanese.proofs.iso_2022_jp.read_ahead.read_any_pairs.Goals as goal

pub returns-then-is_empty : goal.returns-then-is_empty
returns-then-is_empty g c = reads_none _ _ _ _

pub returns-in-None : goal.returns-in-None
returns-in-None g c = reads_none _ _ _ _
