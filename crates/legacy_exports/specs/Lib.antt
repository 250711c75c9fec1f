pub mod Numbers
pub mod AcceptedIndexes
pub mod NewCoders
pub mod Repeated
pub mod Decoding
pub mod Encoding
