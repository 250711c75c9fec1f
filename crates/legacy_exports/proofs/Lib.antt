-- Laws of what the coders write, call by call.
pub mod DecodingLaws
pub mod EncodingLaws
pub mod OutputParts
pub mod TextCuts
