-- Laws of texts and of parts of them.
pub mod CodeUnits
pub mod ShortScalars
pub mod Ascii
pub mod AsciiTail
pub mod PastAscii
pub mod Texts
pub mod ScalarTurns
pub mod UnitLanes
pub mod VectorUnits
pub mod ByteUnits
