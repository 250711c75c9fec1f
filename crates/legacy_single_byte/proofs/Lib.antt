-- The decoder takes the steps of its machine, the machine keeps to its grammar, and the encoder's run is right.
pub mod EncoderRuns
pub mod Latin1Fronts
pub mod LongestRuns
pub mod SingleByteShown
pub mod SingleByteAhead
pub mod SinglyRead
pub mod MostlyRead
