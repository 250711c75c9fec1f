-- The lemmas that the proofs of the loops use.
pub mod CallUnderWay
pub mod ReadingAhead
pub mod PlainServes
pub mod PairAnswers
pub mod CachedPairs
pub mod WrittenUnits
pub mod WalkedPairs
pub mod AbsentPointers
