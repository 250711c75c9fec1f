-- Internal definitions of the codecs. The promises are in legacy_base; `new` says which state of legacy_base a coder
-- begins with.
pub mod ReplacementDecoder
pub mod ReplacementMachine
pub mod UserDefinedCodes
pub mod UserDefinedDecoder
pub mod UserDefinedMachine
pub mod Utf16Decoder
pub mod Utf16Fronts
pub mod Utf16Machine
