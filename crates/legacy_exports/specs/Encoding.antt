-- What an encoder writes, in one call and in conversions of a whole text.
use Rattle.std.specs.Prelude.{◌≡◌, ℕ, ◌+◌, ◌-◌, ◌<◌, ◌≤◌, List, [], ◌∷◌, ◌++◌, length, flat_map, Bool, true, false, IsTrue, ◌⊎◌}
use Rattle.legacy_base.specs.declared.results.EncodeEvent.{EncodeEvent}
use Rattle.legacy_base.specs.declared.results.EncodeEvent.TheVariants.{Byte, Unmappable}
use Rattle.legacy_base.specs.Encoders.{EncoderState, end_bytes, encoder_need}
use Rattle.legacy_codecs.specs.References.{reference, reference_need, Gives}
use Rattle.legacy_coders.specs.Coders.{encoder_of}
use Rattle.legacy_exports.specs.NewCoders.{HoldsByNumber}
use Rattle.legacy_exports.specs.Repeated.{RepeatsFrom}
use Rattle.legacy_exports.specs.AcceptedIndexes.{IsRefusedToEncode, IsTakenToEncode}
use Rattle.legacy_exports.specs.declared.indexes.IndexSlices.{IndexSlices}
use Rattle.legacy_exports.specs.declared.calls.CallEnd.{CallEnd}
use Rattle.legacy_exports.specs.declared.calls.CallEnd.TheVariants.{Read, Full, Replaced}

-- ---- what is written

-- what replaces an unmappable scalar: a question mark after a raw call, or a reference in a call with replacement
pub data Replacement : Type 0 where
  question_mark numeric_reference : Replacement

-- its bytes
abbrev pub replacement : Replacement → ℕ → List ℕ
replacement question_mark c = 0x3F ∷ []
replacement numeric_reference c = reference c

-- the bytes that are written for an event
abbrev pub bytes_of_event : Replacement → EncodeEvent → List ℕ
bytes_of_event kind (Byte b) = b ∷ []
bytes_of_event kind (Unmappable c) = replacement kind c

-- the bytes that are written for events
abbrev pub bytes_of_events : Replacement → List EncodeEvent → List ℕ
bytes_of_events kind events = flat_map (bytes_of_event kind) events

-- the free bytes that a call keeps for a reference
abbrev pub kept_room : Replacement → ℕ
kept_room question_mark = 0
kept_room numeric_reference = reference_need

-- ---- one call

-- An encoder goes from the state `before` to the state `after`, leaves these scalars of the text, and writes these
-- bytes. `lost` is a question mark for which no byte was free.
pub record EncodesTo (kind : Replacement) (ended : Bool) (before : EncoderState) (text : List ℕ) (after : EncoderState)
    (left written lost : List ℕ) : Type 0 where
  -- the text is the scalars that were read, and then those that are left
  pub taken : List ℕ
  pub cut : text ≡ taken ++ left
  -- the codec and its lists stay
  pub codec : after.codec ≡ before.codec
  -- the events of the call
  pub out : List EncodeEvent
  -- these, and then the events of what is left, are the codec's events, whatever text follows; if the end of the text
  -- was written (`ended`), only if none follows or the events with that text still begin so
  pub gives : Gives ended before text after left out
  -- the bytes of the events were written, but for what is lost
  pub bytes : bytes_of_events kind out ≡ written ++ lost

-- all is read, and on a last call the end has nothing left to write
abbrev pub IsEncoded : EncoderState → List ℕ → Bool → Type 0
IsEncoded state left last = (left ≡ []) × (IsTrue last → end_bytes state ≡ [])

-- an act is left and lacks its room, and nothing is lost; or no byte is free for a question mark, which is lost
abbrev pub LacksBytes : Replacement → EncoderState → List ℕ → Bool → ℕ → List ℕ → Type 0
LacksBytes kind state left last free lost =
    ((lost ≡ []) × (0 < encoder_need state left last) × (free < encoder_need state left last + kept_room kind))
    ⊎ ((kind ≡ question_mark) × (lost ≡ 0x3F ∷ []) × (free ≡ 0))

-- what the end of a call says of the scalars left, of the bytes left free, of the number that it wrote, and of what is
-- lost
abbrev pub EncodingEnds : Replacement → EncoderState → List ℕ → Bool → ℕ → ℕ → List ℕ → CallEnd → Type 0
EncodingEnds kind state left last free count lost Read = IsEncoded state left last × (lost ≡ [])
EncodingEnds kind state left last free count lost Full = LacksBytes kind state left last free lost
EncodingEnds kind state left last free count lost Replaced = (1 ≤ count) × (lost ≡ [])

-- the call wrote the end of the text
abbrev pub wrote_end : Bool → CallEnd → Bool
wrote_end last Read = last
wrote_end last Full = false
wrote_end last Replaced = false

-- a call, by the scalars of its text and the bytes that it wrote
pub record EncodingCall (kind : Replacement) (before : EncoderState) (text : List ℕ) (last : Bool) (free : ℕ) (after : EncoderState)
    (end : CallEnd) (left written : List ℕ) : Type 0 where
  pub lost : List ℕ
  pub encodes : EncodesTo kind (wrote_end last end) before text after left written lost
  pub ends : EncodingEnds kind after left last (free - length written) (length written) lost end

-- ---- conversions

-- One conversion of a whole text writes these bytes to an output of `free` bytes. It stops if all is encoded, or if the
-- next act lacks its room.
pub record ConvertsText (kind : Replacement) (text : List ℕ) (free : ℕ) (before after : EncoderState) (written : List ℕ) : Type 0 where
  pub ended : Bool
  pub left : List ℕ
  pub lost : List ℕ
  pub encodes : EncodesTo kind ended before text after left written lost
  pub stops : ((ended ≡ true) × IsEncoded after left true × (lost ≡ [])) ⊎ ((ended ≡ false) × LacksBytes kind after left true (free - length written) lost)

-- What an encoder function returns: the number of bytes that it wrote, or `usize::MAX` if the number or the indexes are
-- refused, or if the source is no text.
pub record ReturnsBytes (is_text : Type 0) (number : ℕ) (slices : IndexSlices) (kind : Replacement) (text : List ℕ)
    (times free : ℕ) (written : List ℕ) (result : ℕ) : Type 0 where
  pub either : (result ≤ free) ⊎ (result ≡ 0xFFFF_FFFF_FFFF_FFFF)
  pub taken : IsTakenToEncode number slices → is_text →
      (result ≤ free) × HoldsByNumber encoder_of number slices (RepeatsFrom (ConvertsText kind text free) times written)
  pub refused : IsRefusedToEncode number slices → result ≡ 0xFFFF_FFFF_FFFF_FFFF
  pub malformed : (is_text → ⊥) → result ≡ 0xFFFF_FFFF_FFFF_FFFF
