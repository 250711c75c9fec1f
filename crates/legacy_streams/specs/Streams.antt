-- Decoding a stream: which events were decoded, and what is true of them.
use Rattle.std.specs.Prelude.{◌≡◌, ◌≤◌, ◌⊎◌, ℕ, List, [], ◌++◌, length, Bool, true, false, IsTrue, Option}
use Rattle.std.specs.Io.KnownBytes.{Appends, Consumes, IsAtEnd}
use Rattle.legacy_base.specs.declared.results.DecodeEvent.{DecodeEvent}
use Rattle.legacy_base.specs.Grammar.{events_of}
use Rattle.legacy_base.specs.States.{DecoderState}
use Rattle.legacy_base.specs.Calls.{Progress}
use Rattle.legacy_codecs.specs.WholeTexts.{IsSettled}

-- A front of the bytes was written.
pub record AppendsFront (old new : Option (List ℕ)) (bytes : List ℕ) : Type 0 where
  pub sent : List ℕ
  pub unsent : List ℕ
  pub parts : bytes ≡ sent ++ unsent
  pub written : Appends old new sent

-- The bytes were written, and perhaps more after them.
pub record AppendsAtLeast (old new : Option (List ℕ)) (bytes : List ℕ) : Type 0 where
  pub more : List ℕ
  pub written : Appends old new (bytes ++ more)

-- ---- one piece of the input

-- The whole piece was decoded, and `Shown` is true of its events.
pub record DecodesPiece (before : DecoderState) (piece : List ℕ) (last : Bool) (after : DecoderState) (Shown : List DecodeEvent → Type 0) : Type 0 where
  pub passed : ℕ
  pub events : List DecodeEvent
  pub progress : Progress last before piece passed after [] events
  pub shown : Shown events
  pub settled : IsSettled after
  pub ended : IsTrue last → events_of after.grammar after.held ≡ []

-- A part of the piece was decoded, and `Shown` is true of its events.
pub record DecodesFront (before : DecoderState) (piece : List ℕ) (last : Bool) (after : DecoderState) (Shown : List DecodeEvent → Type 0) : Type 0 where
  pub passed : ℕ
  pub left : List ℕ
  pub events : List DecodeEvent
  pub progress : Progress last before piece passed after left events
  pub shown : Shown events

-- ---- the whole input

-- The input was read to its end, and `Shown` is true of all events of the held-back and read bytes. No event is left in
-- the decoder, which continues after them if more bytes come with which all events still begin so.
pub record DecodesAll (before after : DecoderState) (input_old input_new : Option (List ℕ)) (Shown : List DecodeEvent → Type 0) : Type 0 where
  pub bytes : List ℕ
  pub read : Consumes input_old input_new bytes
  pub at_end : IsAtEnd input_new
  pub shown : Shown (events_of before.grammar (before.held ++ bytes))
  pub passed : ℕ
  pub progress : Progress true before bytes passed after [] (events_of before.grammar (before.held ++ bytes))
  pub ended : events_of after.grammar after.held ≡ []

-- Some bytes of the input were read and decoded, and `Shown` is true of their events. All events begin with these,
-- whatever the rest of the input is. The decoder has read exactly those bytes, and holds back no scalar of them.
pub record DecodesBeginning (before after : DecoderState) (input_old input_new : Option (List ℕ)) (Shown : List DecodeEvent → Type 0) : Type 0 where
  pub bytes : List ℕ
  pub read : Consumes input_old input_new bytes
  pub passed : ℕ
  pub events : List DecodeEvent
  pub progress : Progress false before bytes passed after [] events
  pub shown : Shown events
  pub settled : (bytes ≡ []) ⊎ IsSettled after
  pub beginning : (more : List ℕ) → (rest : List DecodeEvent) × (events_of before.grammar (before.held ++ (bytes ++ more)) ≡ events ++ rest)

-- Some bytes of the input were read, and a part of them was decoded. `Shown` is true of the events of that part. All
-- events begin with these, whatever follows if the input was not read to its end. All bytes before the last piece, of at
-- most 4096 bytes, were decoded, and `Done` is true of their events.
pub record DecodesPartly (before after : DecoderState) (input_old input_new : Option (List ℕ)) (Done Shown : List DecodeEvent → Type 0) : Type 0 where
  pub bytes : List ℕ
  pub read : Consumes input_old input_new bytes
  pub last : Bool
  pub at_end : IsTrue last → IsAtEnd input_new
  pub passed : ℕ
  pub left : List ℕ
  pub events : List DecodeEvent
  pub progress : Progress last before bytes passed after left events
  pub shown : Shown events
  pub beginning : (more : List ℕ) → (IsTrue last → more ≡ [])
      → (rest : List DecodeEvent) × (events_of before.grammar (before.held ++ (bytes ++ more)) ≡ events ++ rest)
  pub between : DecoderState
  pub input_between : Option (List ℕ)
  pub earlier : DecodesBeginning before between input_old input_between Done
  pub piece : List ℕ
  pub near : length piece ≤ 4096
  pub parts : bytes ≡ earlier.bytes ++ piece
