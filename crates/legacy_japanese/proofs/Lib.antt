-- Each decoder takes the steps of its machine, and each machine keeps to its grammar.
pub mod EucJpHeld
pub mod Iso2022JpStep
pub mod Iso2022JpNeeds
pub mod Iso2022JpEnding
pub mod Iso2022JpFeeding
pub mod Iso2022JpAhead
pub mod Iso2022JpEncoderMoves
pub mod ShiftJisPlaces
pub mod PointerWalks
pub mod FoldedPointers
