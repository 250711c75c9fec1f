-- Lemmas of the C interface.
pub mod SavedStates
pub mod CheckedLists
pub mod SavedEncoders
pub mod WholeTexts
pub mod Refusals
