-- What a caller of the codecs needs to know.
pub mod IndexData
pub mod Mail
pub mod Pages
