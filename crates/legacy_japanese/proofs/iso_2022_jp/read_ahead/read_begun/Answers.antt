use Rattle.legacy_decoder_engine.proofs.WrittenReads.{reads_none}
use Rattle.legacy_japanese.proofs.iso_2022_jp.read_ahead.read_begun.Goals as goal

pub returns-in-Ascii-2 : goal.returns-in-Ascii-2
returns-in-Ascii-2 g c = reads_none _ _ _ _
