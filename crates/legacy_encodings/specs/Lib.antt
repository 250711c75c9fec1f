-- What a registry of encodings gives by their labels.
pub mod ReadFiles
pub mod Registries
pub mod SingleByteFiles
