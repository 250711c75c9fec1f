-- Each decoder takes the steps of its machine, and each machine keeps to its grammar.
pub mod Gb18030Held
pub mod FourPlaces
pub mod Big5Places
pub mod Big5Walk
pub mod Gb18030Walk
pub mod AbsentScalars
