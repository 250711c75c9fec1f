-- The contents of a user's own source and destination.
pub mod CharacterLists
pub mod SourceBeginnings
