-- The codec of an encoder of gb18030 or GBK, and its state between two calls, which never changes.
use Rattle.std.specs.Prelude.{Bool, true, false}
use Rattle.legacy_base.specs.Encoders.{Codec, EncoderState, gb18030, gbk, new_encoder}
use Rattle.{legacy_chinese.specs.declared.gb18030.encoder.Gb18030Encoder.Gb18030Encoder, legacy_tables.specs.Indexes.FlatIndexes}

-- gb18030 if `extended` is true, and GBK otherwise
abbrev pub gb18030_codec : FlatIndexes → Bool → Codec
gb18030_codec flat true = gb18030 flat.gb18030 flat.ranges flat.gb18030_pua
gb18030_codec flat false = gbk flat.gb18030 flat.ranges flat.gb18030_pua

-- the state that the laws of its calls use
abbrev pub gb18030_encoder_state : Gb18030Encoder → EncoderState
gb18030_encoder_state encoder = new_encoder (gb18030_codec encoder.tables.now.flat encoder.extended_range)
