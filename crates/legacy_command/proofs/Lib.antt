-- Laws of the command line's words, and of the files that they name.
pub mod CommandLine
pub mod GivenFiles
pub mod ReadingIndexes
pub mod Stopping
pub mod HostLists
