-- Laws of event lines, and of streams that are read in pieces.
pub mod Hexadecimal
pub mod EventLines
pub mod FourDigitLines
pub mod Whole
pub mod PieceUnderWay
pub mod TextUnderWay
pub mod Utf8Pieces
pub mod EncodingUnderWay
