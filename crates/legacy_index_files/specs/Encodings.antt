-- The encodings of the Standard that this crate lists: their names ("Names and labels"), codecs and index files
-- ("Indexes").
use Rattle.std.specs.Prelude.{ℕ, List, [], ◌∷◌, Option, Some, None, codes, map, Bool, true, false}
use Rattle.legacy_index_files.specs.declared.index_file.FileIndex.{FileIndex}
use Rattle.legacy_index_files.specs.declared.index_file.FileIndex.TheVariants as index
use Rattle.legacy_index_files.specs.declared.index_file.EncoderIndex.{EncoderIndex}
use Rattle.legacy_index_files.specs.declared.index_file.EncoderIndex.TheVariants.{Of, Katakana}
use Rattle.legacy_index_files.specs.declared.encodings.Encoding.{Encoding}
use Rattle.legacy_index_files.specs.declared.encodings.Encoding.TheVariants as encoding
use Rattle.legacy_index_files.specs.declared.codec.Codec.{Codec}
use Rattle.legacy_index_files.specs.declared.codec.Codec.TheVariants as codec

-- the name of an encoding
abbrev pub encoding_name : Encoding → List ℕ
encoding_name encoding.Ibm866 = codes "IBM866"
encoding_name encoding.Iso8859_2 = codes "ISO-8859-2"
encoding_name encoding.Iso8859_3 = codes "ISO-8859-3"
encoding_name encoding.Iso8859_4 = codes "ISO-8859-4"
encoding_name encoding.Iso8859_5 = codes "ISO-8859-5"
encoding_name encoding.Iso8859_6 = codes "ISO-8859-6"
encoding_name encoding.Iso8859_7 = codes "ISO-8859-7"
encoding_name encoding.Iso8859_8 = codes "ISO-8859-8"
encoding_name encoding.Iso8859_8I = codes "ISO-8859-8-I"
encoding_name encoding.Iso8859_10 = codes "ISO-8859-10"
encoding_name encoding.Iso8859_13 = codes "ISO-8859-13"
encoding_name encoding.Iso8859_14 = codes "ISO-8859-14"
encoding_name encoding.Iso8859_15 = codes "ISO-8859-15"
encoding_name encoding.Iso8859_16 = codes "ISO-8859-16"
encoding_name encoding.Koi8R = codes "KOI8-R"
encoding_name encoding.Koi8U = codes "KOI8-U"
encoding_name encoding.Macintosh = codes "macintosh"
encoding_name encoding.Windows874 = codes "windows-874"
encoding_name encoding.Windows1250 = codes "windows-1250"
encoding_name encoding.Windows1251 = codes "windows-1251"
encoding_name encoding.Windows1252 = codes "windows-1252"
encoding_name encoding.Windows1253 = codes "windows-1253"
encoding_name encoding.Windows1254 = codes "windows-1254"
encoding_name encoding.Windows1255 = codes "windows-1255"
encoding_name encoding.Windows1256 = codes "windows-1256"
encoding_name encoding.Windows1257 = codes "windows-1257"
encoding_name encoding.Windows1258 = codes "windows-1258"
encoding_name encoding.MacCyrillic = codes "x-mac-cyrillic"
encoding_name encoding.Gbk = codes "GBK"
encoding_name encoding.Gb18030 = codes "gb18030"
encoding_name encoding.Big5 = codes "Big5"
encoding_name encoding.EucJp = codes "EUC-JP"
encoding_name encoding.Iso2022Jp = codes "ISO-2022-JP"
encoding_name encoding.ShiftJis = codes "Shift_JIS"
encoding_name encoding.EucKr = codes "EUC-KR"
encoding_name encoding.Replacement = codes "replacement"
encoding_name encoding.Utf16Be = codes "UTF-16BE"
encoding_name encoding.Utf16Le = codes "UTF-16LE"
encoding_name encoding.UserDefined = codes "x-user-defined"

-- the codec of an encoding
abbrev pub codec_of : Encoding → Codec
codec_of encoding.Gbk = codec.Gbk
codec_of encoding.Gb18030 = codec.Gb18030
codec_of encoding.Big5 = codec.Big5
codec_of encoding.EucJp = codec.EucJp
codec_of encoding.Iso2022Jp = codec.Iso2022Jp
codec_of encoding.ShiftJis = codec.ShiftJis
codec_of encoding.EucKr = codec.EucKr
codec_of encoding.Replacement = codec.Replacement
codec_of encoding.Utf16Be = codec.Utf16Be
codec_of encoding.Utf16Le = codec.Utf16Le
codec_of encoding.UserDefined = codec.UserDefined
codec_of _ = codec.SingleByte

-- the codecs whose output encoding is not UTF-8 ("get an output encoding")
abbrev pub has_encoder : Codec → Bool
has_encoder codec.Replacement = false
has_encoder codec.Utf16Be = false
has_encoder codec.Utf16Le = false
has_encoder _ = true

-- the indexes that a codec's decoder uses
abbrev pub indexes_of : Codec → List FileIndex
indexes_of codec.SingleByte = index.SingleByte ∷ []
indexes_of codec.Gbk = index.Gb18030 ∷ index.Ranges ∷ []
indexes_of codec.Gb18030 = index.Gb18030 ∷ index.Ranges ∷ []
indexes_of codec.Big5 = index.Big5 ∷ []
indexes_of codec.EucJp = index.Jis0208 ∷ index.Jis0212 ∷ []
indexes_of codec.Iso2022Jp = index.Jis0208 ∷ []
indexes_of codec.ShiftJis = index.Jis0208 ∷ []
indexes_of codec.EucKr = index.EucKr ∷ []
indexes_of codec.Replacement = []
indexes_of codec.Utf16Be = []
indexes_of codec.Utf16Le = []
indexes_of codec.UserDefined = []

-- The indexes that a codec's encoder uses: those of its decoder, and for ISO-2022-JP the katakana index. EUC-JP's encoder
-- does not write the sequences of index jis0212, nor GBK's those of the ranges.
abbrev pub encoder_indexes_of : Codec → List EncoderIndex
encoder_indexes_of codec.Gbk = Of index.Gb18030 ∷ []
encoder_indexes_of codec.EucJp = Of index.Jis0208 ∷ []
encoder_indexes_of codec.Iso2022Jp = Of index.Jis0208 ∷ Katakana ∷ []
encoder_indexes_of codec = map Of (indexes_of codec)

-- the name of the published file of a single-byte encoding
abbrev pub single_byte_file : Encoding → Option (List ℕ)
single_byte_file encoding.Ibm866 = Some (codes "index-ibm866.txt")
single_byte_file encoding.Iso8859_2 = Some (codes "index-iso-8859-2.txt")
single_byte_file encoding.Iso8859_3 = Some (codes "index-iso-8859-3.txt")
single_byte_file encoding.Iso8859_4 = Some (codes "index-iso-8859-4.txt")
single_byte_file encoding.Iso8859_5 = Some (codes "index-iso-8859-5.txt")
single_byte_file encoding.Iso8859_6 = Some (codes "index-iso-8859-6.txt")
single_byte_file encoding.Iso8859_7 = Some (codes "index-iso-8859-7.txt")
single_byte_file encoding.Iso8859_8 = Some (codes "index-iso-8859-8.txt")
single_byte_file encoding.Iso8859_8I = Some (codes "index-iso-8859-8.txt")
single_byte_file encoding.Iso8859_10 = Some (codes "index-iso-8859-10.txt")
single_byte_file encoding.Iso8859_13 = Some (codes "index-iso-8859-13.txt")
single_byte_file encoding.Iso8859_14 = Some (codes "index-iso-8859-14.txt")
single_byte_file encoding.Iso8859_15 = Some (codes "index-iso-8859-15.txt")
single_byte_file encoding.Iso8859_16 = Some (codes "index-iso-8859-16.txt")
single_byte_file encoding.Koi8R = Some (codes "index-koi8-r.txt")
single_byte_file encoding.Koi8U = Some (codes "index-koi8-u.txt")
single_byte_file encoding.Macintosh = Some (codes "index-macintosh.txt")
single_byte_file encoding.Windows874 = Some (codes "index-windows-874.txt")
single_byte_file encoding.Windows1250 = Some (codes "index-windows-1250.txt")
single_byte_file encoding.Windows1251 = Some (codes "index-windows-1251.txt")
single_byte_file encoding.Windows1252 = Some (codes "index-windows-1252.txt")
single_byte_file encoding.Windows1253 = Some (codes "index-windows-1253.txt")
single_byte_file encoding.Windows1254 = Some (codes "index-windows-1254.txt")
single_byte_file encoding.Windows1255 = Some (codes "index-windows-1255.txt")
single_byte_file encoding.Windows1256 = Some (codes "index-windows-1256.txt")
single_byte_file encoding.Windows1257 = Some (codes "index-windows-1257.txt")
single_byte_file encoding.Windows1258 = Some (codes "index-windows-1258.txt")
single_byte_file encoding.MacCyrillic = Some (codes "index-x-mac-cyrillic.txt")
single_byte_file _ = None

-- the name of the published file of an index
abbrev pub file_name_of : Encoding → FileIndex → Option (List ℕ)
file_name_of encoding index.Big5 = Some (codes "index-big5.txt")
file_name_of encoding index.EucKr = Some (codes "index-euc-kr.txt")
file_name_of encoding index.Jis0208 = Some (codes "index-jis0208.txt")
file_name_of encoding index.Jis0212 = Some (codes "index-jis0212.txt")
file_name_of encoding index.Gb18030 = Some (codes "index-gb18030.txt")
file_name_of encoding index.Ranges = Some (codes "index-gb18030-ranges.txt")
file_name_of encoding index.SingleByte = single_byte_file encoding
