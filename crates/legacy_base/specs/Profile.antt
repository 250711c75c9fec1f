-- A record that defines a decoder. Each codec's file in this folder has its own value, by what differs from `byte_profile`.
use Rattle.std.specs.Prelude.{ℕ, List, [], ◌∷◌, length, Bool, true, false}
use Rattle.std.specs.Int.{is_in_range}
use Rattle.legacy_base.specs.declared.results.DecodeEvent.{DecodeEvent}
use Rattle.legacy_base.specs.Fronts.{Front, cut}
use Rattle.legacy_base.specs.Formulas.{Term, to_come, weighed, constant, ◌⊞◌, ◌⊠◌, halved}

-- the terms of the three length formulas
pub record LengthTerms : Type 0 where
  pub utf16 : Term
  pub utf8 : Term
  pub utf8_without_replacement : Term

-- a decoder
pub record Profile : Type 0 where
  -- the events of a list of bytes
  pub events : List ℕ → List DecodeEvent
  -- the decoder may hold back these bytes
  pub may_hold : List ℕ → Bool
  -- The held-back bytes wait for more bytes or for the end. If this is false, they begin with a scalar that is still to
  -- be written.
  pub rests : List ℕ → Bool
  -- a further condition of a neutral state, besides that nothing is held back: in ISO-2022-JP the mode is ASCII
  pub begins_in_ascii : Bool
  -- reading a byte past ASCII needs the code units of the longest scalar, and not only those of the longest one up to U+FFFF
  pub wide_reads : Bool
  -- the same for writing a held-back scalar, and for a report at the end of input
  pub wide_writes : Bool
  -- an ASCII byte needs one code unit if nothing is held back
  pub short_ascii : Bool
  -- the error was reported, and no act needs anything
  pub reported : Bool
  -- some pairs give a letter and a combining mark
  pub marks : Bool
  -- the number of further bytes that the held-back bytes count as
  pub weight : List ℕ → ℕ
  -- the lengths of its outputs, at most
  pub lengths : LengthTerms

-- ---- held-back bytes of several codecs

-- the bytes that begin a longer sequence in Big5, EUC-KR and gb18030
abbrev pub is_lead : ℕ → Bool
is_lead b = is_in_range 0x81 0xFE b

-- true for nothing and for one lead
abbrev pub single_lead_may_hold : (ℕ → Bool) → List ℕ → Bool
single_lead_may_hold is_lead_byte [] = true
single_lead_may_hold is_lead_byte (b ∷ []) = is_lead_byte b
single_lead_may_hold is_lead_byte _ = false

-- nothing is held back
abbrev pub is_empty : List ℕ → Bool
is_empty [] = true
is_empty (b ∷ bytes) = false

-- all held-back bytes wait
abbrev pub always_rests : List ℕ → Bool
always_rests held = true

-- held-back bytes count as no further bytes
abbrev pub weightless : List ℕ → ℕ
weightless held = 0

-- ---- lengths of several codecs

-- the lengths for this number of code units of UTF-16, with three bytes of UTF-8 for each
abbrev pub three_bytes : Term → LengthTerms
three_bytes units = record { utf16 = units; utf8 = constant 3 ⊠ units; utf8_without_replacement = constant 3 ⊠ units }

-- the same, with one code unit more
abbrev pub one_more : LengthTerms → LengthTerms
one_more terms = record {
  utf16 = constant 1 ⊞ terms.utf16;
  utf8 = constant 1 ⊞ terms.utf8;
  utf8_without_replacement = constant 1 ⊞ terms.utf8_without_replacement;
}

-- the lengths of codecs in which each scalar with three bytes in UTF-8 has at least two bytes
abbrev pub lead_lengths : LengthTerms
lead_lengths = record (three_bytes weighed) { utf8_without_replacement = constant 2 ⊞ (weighed ⊞ halved (weighed ⊞ constant 1)) }

-- ---- the profiles that others are made from

-- a decoder with these events that holds nothing back: each byte gives at most one scalar, up to U+FFFF
abbrev pub byte_profile : (List ℕ → List DecodeEvent) → Profile
byte_profile events = record {
  events = events;
  may_hold = is_empty;
  rests = always_rests;
  begins_in_ascii = true;
  wide_reads = false;
  wide_writes = false;
  short_ascii = true;
  reported = false;
  marks = false;
  weight = weightless;
  lengths = three_bytes to_come;
}

-- the same with held-back bytes, each of which counts as one byte
abbrev pub held_profile : (List ℕ → List DecodeEvent) → (List ℕ → Bool) → Profile
held_profile events may_hold = record (byte_profile events) {
  may_hold = may_hold;
  weight = length;
  lengths = three_bytes weighed;
}

-- a codec of single bytes and pairs, by its fronts and its leads
abbrev pub lead_profile : (ℕ → List ℕ → Front) → (ℕ → Bool) → Profile
lead_profile front is_lead_byte = held_profile (cut front 0 0) (single_lead_may_hold is_lead_byte)
