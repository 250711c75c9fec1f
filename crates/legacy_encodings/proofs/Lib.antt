-- What the registry's index files give it, and whether something was replaced.
pub mod ReadTables
pub mod Replaced
