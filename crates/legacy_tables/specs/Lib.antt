-- What an index is, and when tables are those of given indexes.
pub mod Unicode
pub mod Indexes
pub mod Pointers
pub mod TableChecks
pub mod AcceptedTables
pub mod StoredTables
pub mod Tables
pub mod KeptTables
pub mod PointerRuns
pub mod RunOrder
pub mod Packed
pub mod Orders
pub mod PointerSets
pub mod PackedTables
pub mod Walks
pub mod RangeParts
