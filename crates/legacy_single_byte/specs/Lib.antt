-- Internal definitions of the codecs. The promises are in legacy_base; `new` says which state of legacy_base a coder
-- begins with. `SingleByteRun` is part of a promise: it says which runs an encoder accepts, and which is the longest.
pub mod ByteEntries
pub mod LongestRun
pub mod SingleByteCodes
pub mod SingleByteDecoder
pub mod SingleByteEncoder
pub mod SingleByteMachine
pub mod SingleByteRun
