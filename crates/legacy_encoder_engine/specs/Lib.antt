-- The internal definitions of the encoders' engine. The promises of the encoders are in legacy_base and do not depend
-- on these.
pub mod Moves
pub mod ProfileSuffices
pub mod UnfinishedCall
pub mod PlainCodecs
pub mod PlainLengths
pub mod PairCodecs
pub mod WrittenUnits
pub mod CachedPairs
pub mod Guesses
