-- The state of a new coder of each codec, over the lists of the indexes and, for a single-byte encoding, its entries.
use Rattle.std.specs.Prelude.{ℕ, List, Option, Some, None, true, false, option_map}
use Rattle.legacy_base.specs.Grammar.{single_byte, user_defined, replacement, utf16, big5, shift_jis, euc_jp, gb18030, iso_2022_jp}
use Rattle.legacy_base.specs.EucKr.{euc_kr}
use Rattle.legacy_base.specs.declared.modes.DecoderMode.TheVariants.{Ascii}
use Rattle.legacy_base.specs.States.{DecoderState, new_state}
use Rattle.legacy_base.specs.Encoders.{EncoderState, new_encoder}
use Rattle.legacy_base.specs.Encoders as encoders
use Rattle.legacy_tables.specs.Indexes.{FlatIndexes}
use Rattle.legacy_index_files.specs.declared.codec.Codec.{Codec}
use Rattle.legacy_index_files.specs.declared.codec.Codec.TheVariants as codec

-- a decoder, or none for a single-byte encoding without entries
abbrev pub decoder_of : Codec → FlatIndexes → Option (List ℕ) → Option DecoderState
decoder_of codec.SingleByte flat entries = option_map (λ e. new_state (single_byte e)) entries
decoder_of codec.Gbk flat entries = Some (new_state (gb18030 flat.gb18030 flat.ranges))
decoder_of codec.Gb18030 flat entries = Some (new_state (gb18030 flat.gb18030 flat.ranges))
decoder_of codec.Big5 flat entries = Some (new_state (big5 flat.big5))
decoder_of codec.EucJp flat entries = Some (new_state (euc_jp flat.jis0208 flat.jis0212))
decoder_of codec.Iso2022Jp flat entries = Some (new_state (iso_2022_jp flat.jis0208 Ascii))
decoder_of codec.ShiftJis flat entries = Some (new_state (shift_jis flat.jis0208))
decoder_of codec.EucKr flat entries = Some (new_state (euc_kr flat.euc_kr))
decoder_of codec.Replacement flat entries = Some (new_state (replacement false))
decoder_of codec.Utf16Be flat entries = Some (new_state (utf16 true))
decoder_of codec.Utf16Le flat entries = Some (new_state (utf16 false))
decoder_of codec.UserDefined flat entries = Some (new_state user_defined)

-- an encoder, or none for a single-byte encoding without entries and if the output encoding is UTF-8
abbrev pub encoder_of : Codec → FlatIndexes → Option (List ℕ) → Option EncoderState
encoder_of codec.SingleByte flat entries = option_map (λ e. new_encoder (encoders.single_byte e)) entries
encoder_of codec.Gbk flat entries = Some (new_encoder (encoders.gbk flat.gb18030 flat.ranges flat.gb18030_pua))
encoder_of codec.Gb18030 flat entries = Some (new_encoder (encoders.gb18030 flat.gb18030 flat.ranges flat.gb18030_pua))
encoder_of codec.Big5 flat entries = Some (new_encoder (encoders.big5 flat.big5))
encoder_of codec.EucJp flat entries = Some (new_encoder (encoders.euc_jp flat.jis0208 flat.jis0212))
encoder_of codec.Iso2022Jp flat entries = Some (new_encoder (encoders.iso_2022_jp flat.jis0208 flat.katakana))
encoder_of codec.ShiftJis flat entries = Some (new_encoder (encoders.shift_jis flat.jis0208))
encoder_of codec.EucKr flat entries = Some (new_encoder (encoders.euc_kr flat.euc_kr))
encoder_of codec.Replacement flat entries = None
encoder_of codec.Utf16Be flat entries = None
encoder_of codec.Utf16Le flat entries = None
encoder_of codec.UserDefined flat entries = Some (new_encoder encoders.user_defined)
