-- The meaning of each codec, in reading order. An `abbrev` is a small case analysis that proofs see through. A
-- definition that recurses over lists, or contains a codec's whole case analysis, is `unfoldable`. Proofs mostly use
-- its laws, and unfold it only if they must.
pub mod Beginnings
pub mod Events
pub mod Fronts
pub mod Formulas
pub mod Profile
pub mod EncodeEvents
pub mod EncoderProfile
pub mod SingleByte
pub mod UserDefined
pub mod Replacement
pub mod LeadForms
pub mod Big5
pub mod ShiftJis
pub mod EucJp
pub mod Gb18030
pub mod Iso2022Jp
pub mod Utf16
pub mod Grammar
pub mod EucKr
pub mod States
pub mod DecoderActs
pub mod Lengths
pub mod Calls
pub mod Encoders
pub mod EncoderCalls
pub mod Latin1
pub mod Laws
pub mod RoundTrips
