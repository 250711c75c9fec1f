-- What the laws of the codecs give their callers.
pub mod EucKrFiles
pub mod Pages
pub mod TwoFiles
