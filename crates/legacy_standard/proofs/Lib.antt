-- Proofs that the handlers give the events of the grammars and encoders.
pub mod Turns
pub mod HandledFronts
pub mod SingleByteHandled
pub mod LeadHandled
pub mod EucJpHandled
pub mod Gb18030Handled
pub mod ReplacementHandled
pub mod Utf16Handled
pub mod Iso2022JpHandled
pub mod TextTurns
pub mod RangePointers
pub mod PlainEncoded
pub mod Iso2022JpEncoded
pub mod AllCodecs
