-- The internal definitions of the decoders. The promises of the decoders are in legacy_base and do not depend on these.
pub mod Moves
pub mod ReadAhead
pub mod LanePlaces
pub mod Steps
pub mod StepUnits
pub mod Feeding
pub mod LeadMachines
pub mod LeadCodecs
pub mod Places
pub mod StatesAfterSteps
pub mod Shown
pub mod PickedForms
pub mod LaneCodes
