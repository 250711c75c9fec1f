use Rattle.legacy_decoder_engine.proofs.JoinedReads.{reads_more}
use Rattle.legacy_japanese.proofs.iso_2022_jp.read_ahead.read_ascii_text.Goals as goal

pub returns : goal.returns
returns g c = reads_more c.read_ascii_text_blocks-blocks.ensures c.read_ascii_text_bytes-2.ensures
