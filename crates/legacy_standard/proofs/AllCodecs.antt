-- Both laws of this crate, codec by codec.
use Rattle.legacy_standard.proofs.{SingleByteHandled.{single_byte_handled, user_defined_handled}, LeadHandled.{euc_kr_handled, big5_handled, shift_jis_handled}}
use Rattle.legacy_standard.proofs.{EucJpHandled.euc_jp_handled, Gb18030Handled.gb18030_handled, ReplacementHandled.replacement_handled}
use Rattle.legacy_standard.proofs.{Utf16Handled.utf16_handled, Iso2022JpHandled.iso_2022_jp_handled, Iso2022JpEncoded.iso_2022_jp_encoded}
use Rattle.legacy_standard.proofs.PlainEncoded.{single_byte_encoded, user_defined_encoded, euc_kr_encoded, big5_encoded, shift_jis_encoded, euc_jp_encoded}
use Rattle.legacy_standard.proofs.PlainEncoded.{gb18030_encoded, gbk_encoded}
use Rattle.legacy_standard.specs.{DecoderLaw.AreDecodedByHandlers, EncoderLaw.AreEncodedByHandlers}
use Rattle.legacy_standard.specs.DecoderLaw as decoders
use Rattle.legacy_base.specs.Encoders as codecs

pub all_decoders : AreDecodedByHandlers
all_decoders (decoders.single_byte table) = single_byte_handled table
all_decoders decoders.user_defined = user_defined_handled
all_decoders decoders.replacement = replacement_handled
all_decoders (decoders.utf16 is_utf16be) = utf16_handled is_utf16be
all_decoders (decoders.euc_kr index) = euc_kr_handled index
all_decoders (decoders.big5 index) = big5_handled index
all_decoders (decoders.shift_jis jis0208) = shift_jis_handled jis0208
all_decoders (decoders.euc_jp jis0208 jis0212) = euc_jp_handled jis0208 jis0212
all_decoders (decoders.gb18030 index ranges) = gb18030_handled index ranges
all_decoders (decoders.iso_2022_jp jis0208) = iso_2022_jp_handled jis0208

pub all_encoders : AreEncodedByHandlers
all_encoders (codecs.single_byte table) accepted has = single_byte_encoded table
all_encoders codecs.user_defined accepted has = user_defined_encoded
all_encoders (codecs.big5 index) accepted has = big5_encoded index
all_encoders (codecs.euc_kr index) accepted has = euc_kr_encoded index
all_encoders (codecs.shift_jis jis0208) accepted has = shift_jis_encoded jis0208 has
all_encoders (codecs.euc_jp jis0208 jis0212) accepted has = euc_jp_encoded jis0208 jis0212 has
all_encoders (codecs.gb18030 index ranges pua) accepted has = gb18030_encoded index ranges pua accepted has
all_encoders (codecs.gbk index ranges pua) accepted has = gbk_encoded index ranges pua
all_encoders (codecs.iso_2022_jp jis0208 katakana_index) accepted has = iso_2022_jp_encoded jis0208 katakana_index has.0 has.1
