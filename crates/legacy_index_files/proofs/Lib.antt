-- Laws of the lines of an index file, their grammar and their table, and of the names of encodings.
pub mod EmptyIndexes
pub mod EncodingNames
pub mod IndexGrammars
pub mod IndexLines
pub mod IndexNumbers
pub mod IndexValues
pub mod PackingRuns
pub mod PackingOrders
pub mod PackingFaults
pub mod WellFormed
