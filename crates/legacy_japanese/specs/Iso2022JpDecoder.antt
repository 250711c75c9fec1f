-- The state of the ISO-2022-JP decoder between two calls.
use Rattle.legacy_base.specs.States.{DecoderState}
use Rattle.legacy_japanese.specs.{declared.iso_2022_jp.decoder.Iso2022JpDecoder.Iso2022JpDecoder, Iso2022JpMachine.state_in}

-- the grammar in the decoder's mode, and the held-back bytes
abbrev pub iso_2022_jp_state : Iso2022JpDecoder → DecoderState
iso_2022_jp_state decoder = state_in decoder.tables.now.flat.jis0208 decoder.mode decoder.held
