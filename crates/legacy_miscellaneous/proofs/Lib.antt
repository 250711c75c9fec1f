-- Each decoder takes the steps of its machine, and each machine keeps to its grammar.
pub mod ReplacementSteps
pub mod UserDefinedShown
pub mod UserDefinedAhead
pub mod Utf16Cut
pub mod Utf16Held
pub mod Utf16Ahead
pub mod Utf16Vectors
