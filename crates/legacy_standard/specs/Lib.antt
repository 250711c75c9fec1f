-- The handlers of the WHATWG Encoding Standard's decoders and encoders, and the laws that they agree with the
-- definitions.
pub mod Queue
pub mod Processing
pub mod SingleByte
pub mod UserDefined
pub mod Replacement
pub mod EucKr
pub mod Big5
pub mod ShiftJis
pub mod EucJp
pub mod Gb18030
pub mod Utf16
pub mod Iso2022Jp
pub mod DecoderLaw
pub mod TextQueue
pub mod RangesPointer
pub mod SingleByteEncoder
pub mod UserDefinedEncoder
pub mod EucKrEncoder
pub mod Big5Encoder
pub mod ShiftJisEncoder
pub mod EucJpEncoder
pub mod Gb18030Encoder
pub mod Iso2022JpEncoder
pub mod EncoderLaw
pub mod WorkedBytes
pub mod WorkedTexts
