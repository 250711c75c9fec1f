-- The meaning of the command line, and the work of the programs.
pub mod Words
pub mod GivenTexts
pub mod Program
pub mod Host
