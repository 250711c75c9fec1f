-- The content of an index file, the owning set of indexes, packing, and the encodings.
pub mod Encodings
pub mod IndexGrammar
pub mod IndexLine
pub mod IndexTable
pub mod IndexTexts
pub mod Labels
pub mod OwnedIndexes
pub mod Packing
