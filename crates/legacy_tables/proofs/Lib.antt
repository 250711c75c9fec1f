-- Laws of indexes and of tables made of them.
pub mod TableLoops
pub mod FirstPlaces
pub mod SearchedBlocks
pub mod Pointers
pub mod Accepted
pub mod RangePointers
pub mod PointerBounds
pub mod PrivateUse
pub mod PackedRuns
pub mod PackedPointers
pub mod PackedAccepted
pub mod Orders
pub mod PointerSets
pub mod AcceptedTable
pub mod RunWalks
pub mod Walks
