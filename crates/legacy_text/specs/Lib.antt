-- Texts in UTF-8 and UTF-16, and their sources and destinations.
pub mod EncodingForm
pub mod Texts
pub mod Cursor
pub mod Destinations
pub mod NextScalars
pub mod UnitCodes
pub mod UnitTurns
pub mod ScalarTurns
pub mod ShortScalars
pub mod TextSources
pub mod UnitBytes
pub mod PastAscii
pub mod ByteUnits
