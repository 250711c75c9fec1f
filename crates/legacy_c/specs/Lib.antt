-- The C interface: what its numbers mean.
pub mod Lists
pub mod Faults
pub mod Saved
pub mod DecoderCalls
pub mod Queries
pub mod SavedEncoder
pub mod EncoderCalls
pub mod EncoderQueries
