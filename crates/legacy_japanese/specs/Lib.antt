-- Internal definitions of the codecs. The promises are in legacy_base; `new` says which state of legacy_base a coder
-- begins with.
pub mod EucJpCodes
pub mod EucJpDecoder
pub mod EucJpMachine
pub mod EucJpShown
pub mod Iso2022JpMachine
pub mod Iso2022JpDecoder
pub mod Iso2022JpAhead
pub mod Iso2022JpEncoder
pub mod ShiftJisCodes
pub mod ShiftJisPlaces
pub mod ShiftJisShown
pub mod ByPointer
