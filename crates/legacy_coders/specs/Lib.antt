-- The coders of all codecs.
pub mod Coders
pub mod Lists
pub mod Queries
