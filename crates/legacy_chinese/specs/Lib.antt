-- Internal definitions of the codecs. The promises are in legacy_base; `new` says which state of legacy_base a coder
-- begins with. `Gb18030Codec` is part of a promise: it says whether an encoder is gb18030's (true) or GBK's.
pub mod Big5Codes
pub mod Big5Forms
pub mod FourForms
pub mod Gb18030Codec
pub mod Gb18030Codes
pub mod Gb18030List
pub mod Gb18030Decoder
pub mod Gb18030Machine
pub mod PairPlaces
pub mod Big5Shown
pub mod Gb18030Shown
