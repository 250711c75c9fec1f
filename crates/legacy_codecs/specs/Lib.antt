-- What a run of a decoder or an encoder over a whole input is.
pub mod ScalarBuffers
pub mod Pieces
pub mod Runs
pub mod EncodeRuns
pub mod RoundTripRuns
pub mod QueriedOutput
pub mod EncodeFilling
pub mod Replacing
pub mod References
pub mod StandardRuns
pub mod StandardTexts
pub mod ReferenceRoundTrips
pub mod ByteRoundTrips
pub mod MalformedSequences
pub mod WholeTexts
pub mod RunResults
