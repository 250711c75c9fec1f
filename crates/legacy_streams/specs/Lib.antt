-- What is written for a stream.
pub mod Lines
pub mod LineBuffers
pub mod Streams
pub mod Recoding
pub mod Text
pub mod Utf8Texts
pub mod TextEncoding
pub mod Waiting
