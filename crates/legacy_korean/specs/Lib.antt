-- Internal definitions of the codecs. The promises are in legacy_base; `new` says which state of legacy_base a coder
-- begins with.
pub mod EucKrCodes
pub mod EucKrShown
