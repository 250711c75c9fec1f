-- The codecs' numbers.
use Rattle.std.specs.Prelude.{ℕ}
use Rattle.legacy_index_files.specs.declared.codec.Codec.{Codec}
use Rattle.legacy_index_files.specs.declared.codec.Codec.TheVariants as codecs

-- the number that names a codec to a caller in another language
abbrev pub number_of : Codec → ℕ
number_of codecs.SingleByte = 1
number_of codecs.Gbk = 2
number_of codecs.Gb18030 = 3
number_of codecs.Big5 = 4
number_of codecs.EucJp = 5
number_of codecs.Iso2022Jp = 6
number_of codecs.ShiftJis = 7
number_of codecs.EucKr = 8
number_of codecs.Replacement = 9
number_of codecs.Utf16Be = 10
number_of codecs.Utf16Le = 11
number_of codecs.UserDefined = 12
