-- Calls of an encoder that write a numeric character reference for each unmappable scalar.
use Rattle.std.specs.Prelude.{◌≡◌, ℕ, ◌+◌, ◌-◌, ◌<◌, ◌≤◌, List, [], ◌∷◌, ◌++◌, length, flat_map, Bool, true, false, IsTrue, Some, ◌⊎◌, decimal, codes}
use Rattle.std.specs.List.{list_any}
use Rattle.legacy_base.specs.declared.results.EncodeEvent.{EncodeEvent}
use Rattle.legacy_base.specs.declared.results.EncodeEvent.TheVariants.{Byte, Unmappable}
use Rattle.legacy_base.specs.declared.results.EncoderResult.{EncoderResult}
use Rattle.legacy_base.specs.declared.results.EncoderResult.TheVariants as raw
use Rattle.legacy_base.specs.Beginnings.{BeginsWith}
use Rattle.legacy_base.specs.EncoderCalls.{EncoderCall}
use Rattle.legacy_text.specs.EncodingForm.{EncodingForm, total_unit_count}
use Rattle.legacy_base.specs.Encoders.{EncoderState, encoded, end_bytes, encoder_need, encoder_answer}
use Rattle.legacy_codecs.specs.declared.results.CoderResult.{CoderResult}
use Rattle.legacy_codecs.specs.declared.results.CoderResult.TheVariants.{InputEmpty, OutputFull}

-- the reference of a scalar: `&#`, its number in decimal, and `;` ("process an item", error mode "html")
abbrev pub reference : ℕ → List ℕ
reference c = codes "&#" ++ decimal c ++ codes ";"

-- the length of the longest reference, `&#1114111;`
abbrev pub reference_need : ℕ
reference_need = 10

-- the bytes that are written for an event: for an unmappable scalar its reference
abbrev pub event_bytes : EncodeEvent → List ℕ
event_bytes (Byte b) = b ∷ []
event_bytes (Unmappable c) = reference c

-- the bytes that are written for events
abbrev pub referenced_bytes : List EncodeEvent → List ℕ
referenced_bytes events = flat_map event_bytes events

-- the event is an unmappable scalar
abbrev pub is_unmappable : EncodeEvent → Bool
is_unmappable (Byte b) = false
is_unmappable (Unmappable c) = true

-- some of the events is an unmappable scalar
abbrev pub has_unmappable : List EncodeEvent → Bool
has_unmappable events = list_any is_unmappable events

-- the result says that the end of the text was written
abbrev pub tells_text_end : Bool → CoderResult → Bool
tells_text_end last InputEmpty = last
tells_text_end last OutputFull = false

-- The events of the source and any text after it, ended or not, are `out` and then those of what is left. After the end
-- was written (`wrote_end`), this holds if no text follows, or if the events with that text still begin with `out`.
abbrev pub Gives : Bool → EncoderState → List ℕ → EncoderState → List ℕ → List EncodeEvent → Type 0
Gives wrote_end before source after left out =
    (more : List ℕ) (ended : Bool) →
    (IsTrue wrote_end → ((more ≡ []) × IsTrue ended) ⊎ BeginsWith (encoded before (source ++ more) ended) out) →
    encoded before (source ++ more) ended ≡ out ++ encoded after (left ++ more) ended

-- Ten of the free bytes stay free after each byte of an encoded scalar, and are free before each reference.
unfoldable pub KeepsReserve : ℕ → List EncodeEvent → Type 0
KeepsReserve free [] = Unit {0}
KeepsReserve free (Byte b ∷ events) = (1 + reference_need ≤ free) × KeepsReserve (free - 1) events
KeepsReserve free (Unmappable c ∷ events) = (reference_need ≤ free) × KeepsReserve (free - length (reference c)) events

-- the next act and a reference after it need more than is free
abbrev pub LacksReferenceRoom : EncoderState → List ℕ → Bool → ℕ → Type 0
LacksReferenceRoom state unread last free = free < encoder_need state unread last + reference_need

-- ---- the raw calls

-- Raw calls that each reported an unmappable scalar, after which its reference was written. They lead to a state, leave
-- these scalars, and wrote these bytes together. Each has the free bytes without ten.
pub data UnmappableCalls (before : EncoderState) (source : List ℕ) (last : Bool) (free : ℕ) : EncoderState → List ℕ → List ℕ → Type 0 where
  begun : UnmappableCalls before source last free before source []
  replaced : (now : EncoderState) (left written : List ℕ) → UnmappableCalls before source last free now left written →
      (after : EncoderState) (c : ℕ) (rest bytes : List ℕ) →
      EncoderCall now left last (free - length written - reference_need) after (raw.Unmappable c) rest bytes →
      UnmappableCalls before source last free after rest (written ++ (bytes ++ reference c))

-- the result of a raw call that is returned so
abbrev pub raw_result : CoderResult → EncoderResult
raw_result InputEmpty = raw.InputEmpty
raw_result OutputFull = raw.OutputFull

-- What the last raw call does with `free` bytes free: it has them without ten. It may be left out if its act and a
-- reference lack their room, because it would do nothing.
pub data LastCall (now : EncoderState) (left : List ℕ) (last : Bool) (free : ℕ) : EncoderState → CoderResult → List ℕ → List ℕ → Type 0 where
  made : (after : EncoderState) (answer : CoderResult) (rest bytes : List ℕ) →
      EncoderCall now left last (free - reference_need) after (raw_result answer) rest bytes → LastCall now left last free after answer rest bytes
  left_out : 0 < encoder_need now left last → LacksReferenceRoom now left last free → LastCall now left last free now OutputFull left []

-- Such calls, and then the one that gives the result.
pub record IsByRawCalls (before : EncoderState) (source : List ℕ) (last : Bool) (free : ℕ) (after : EncoderState) (answer : CoderResult)
    (left written : List ℕ) : Type 0 where
  pub now : EncoderState
  pub left_before : List ℕ
  pub written_before : List ℕ
  pub replaced : UnmappableCalls before source last free now left_before written_before
  pub bytes : List ℕ
  pub ends : LastCall now left_before last (free - length written_before) after answer left bytes
  pub written_is : written ≡ written_before ++ bytes

-- ---- the law

-- A call from the state `before` over the scalars `source` with `free` bytes free. It returns a result, goes to the
-- state `after`, leaves the scalars `left`, and writes `bytes`. `found` is whether it found an unmappable scalar.
pub record ReplacingEncoderCall (before : EncoderState) (source : List ℕ) (last : Bool) (free : ℕ) (after : EncoderState) (answer : CoderResult)
    (left bytes : List ℕ) (found : Bool) : Type 0 where
  -- the source is the scalars that were read, and then those that are left
  pub taken : List ℕ
  pub cut : source ≡ taken ++ left
  -- the codec and its lists stay
  pub codec : after.codec ≡ before.codec
  -- at most the free bytes are written
  pub fits : length bytes ≤ free
  -- the events of the call
  pub out : List EncodeEvent
  -- these, and then the events of what is left, are the codec's events, whatever text follows
  pub gives : Gives (tells_text_end last answer) before source after left out
  -- the bytes are those of the events, with a reference for each unmappable scalar
  pub text : bytes ≡ referenced_bytes out
  -- ten bytes are kept free for a reference
  pub reserve : KeepsReserve free out
  -- `found` is whether a scalar was unmappable
  pub found_is : found ≡ has_unmappable out
  -- it does what raw calls do, so what each act and a reference need was free before it
  pub calls : IsByRawCalls before source last free after answer left bytes
  -- at InputEmpty all is read; on a last call the end has nothing left to write
  pub input_empty : answer ≡ InputEmpty → (left ≡ []) × (IsTrue last → end_bytes after ≡ [])
  -- at OutputFull something is left to do, and the next act and a reference lack their room
  pub output_full : answer ≡ OutputFull → (0 < encoder_need after left last) × LacksReferenceRoom after left last (free - length bytes)
  -- at OutputFull fewer than fourteen bytes are free
  pub few : answer ≡ OutputFull → free - length bytes < 14
  -- if the next act and a reference lack their room as the call begins, it returns OutputFull and does nothing
  pub full_at_once : 0 < encoder_need before source last → LacksReferenceRoom before source last free →
      (answer ≡ OutputFull) × (left ≡ source) × (bytes ≡ []) × (found ≡ false) × (after ≡ before)
  -- with ten bytes more than the length queried for the source, OutputFull is returned only after an unmappable scalar
  pub enough : (form : EncodingForm) (n k : ℕ) → total_unit_count form source ≤ n → encoder_answer form before n ≡ Some k →
      k + reference_need ≤ free → answer ≡ OutputFull → IsTrue found
