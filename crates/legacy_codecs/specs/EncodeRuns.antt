-- Runs of an encoder: its calls over a text in pieces, with outputs of given lengths.
use Rattle.std.specs.Prelude.{◌≡◌, ℕ, ◌+◌, ◌≤◌, List, [], ◌++◌, length, map, slice_get, Bool, true, false, Some}
use Rattle.std.specs.Borrow.{Bor}
use Rattle.std.specs.Str.{chars}
use Rattle.legacy_base.specs.declared.results.EncodeEvent.{EncodeEvent}
use Rattle.legacy_base.specs.declared.results.EncodeEvent.TheVariants.{Byte}
use Rattle.legacy_base.specs.declared.results.EncoderResult.{EncoderResult}
use Rattle.legacy_base.specs.declared.results.EncoderResult.TheVariants.{InputEmpty, OutputFull, Unmappable}
use Rattle.legacy_text.specs.Texts.{unit_scalars}
use Rattle.legacy_base.specs.Encoders.{EncoderState, encoded, end_bytes}
use Rattle.legacy_base.specs.EncoderCalls.{EncoderCall, reported}
use Rattle.legacy_codecs.specs.Pieces.{joined, AreAmple, RunPlace, is_none, place_before, place_after, ends_run}

-- the scalars of each piece in UTF-8
abbrev pub chars_of : List (Bor (List ℕ)) → List (List ℕ)
chars_of pieces = map (λ p. chars p.now) pieces

-- the scalars of each piece in UTF-16, each piece read alone
abbrev pub unit_scalars_of : List (Bor (List ℕ)) → List (List ℕ)
unit_scalars_of pieces = map (λ p. unit_scalars p.now) pieces

-- the call returned InputEmpty
abbrev pub is_input_empty : EncoderResult → Bool
is_input_empty InputEmpty = true
is_input_empty OutputFull = false
is_input_empty (Unmappable c) = false

-- ---- the calls of a run

-- Calls from one place to another, which gave these events. Each has an output of the next of the lengths, and `last`
-- is set if the piece is the last. A piece is a list of scalars, from UTF-8 or UTF-16.
pub data EncodeReaches (from : RunPlace EncoderState) (lengths : List ℕ) : ℕ → List EncodeEvent → Bool → RunPlace EncoderState → Type 0 where
  begun : EncodeReaches from lengths 0 [] false from
  called : (calls : ℕ) (events : List EncodeEvent) (p : RunPlace EncoderState) → EncodeReaches from lengths calls events false p →
      (free : ℕ) → slice_get lengths calls ≡ Some free →
      (after : EncoderState) (answer : EncoderResult) (left bytes : List ℕ) →
      EncoderCall p.state p.piece (is_none p.later) free after answer left bytes →
      EncodeReaches from lengths (calls + 1) (events ++ (map Byte bytes ++ reported answer))
      (ends_run p (is_input_empty answer)) (place_after p after (is_input_empty answer) left)

-- ---- the result of a run

-- A run from a place gave these events and ends in this state. It makes one call for each length, or fewer if it is
-- finished earlier.
pub record IsEncodeRun (from : RunPlace EncoderState) (lengths : List ℕ) (calls : ℕ) (finished : Bool)
    (answered : List EncodeEvent) (after : EncoderState) : Type 0 where
  pub place : RunPlace EncoderState
  pub reaches : EncodeReaches from lengths calls answered finished place
  pub state : place.state ≡ after
  pub few : calls ≤ length lengths
  pub all : finished ≡ false → calls ≡ length lengths

-- The events are a prefix of those of all pieces and the end of the text, and all of them if the run is finished.
pub record IsEncodeBeginning (before : EncoderState) (pieces : List (List ℕ)) (finished : Bool) (answered : List EncodeEvent) : Type 0 where
  pub rest : List EncodeEvent
  pub whole : encoded before (joined pieces) true ≡ answered ++ rest
  pub all : finished ≡ true → rest ≡ []

-- Nothing is left to write in a state: the end of the text gives no bytes.
abbrev pub HasNoEnd : EncoderState → Type 0
HasNoEnd state = end_bytes state ≡ []

-- Each output has room for any act, at most four bytes, and there are at least as many as the text has events and
-- pieces.
abbrev pub HasAmpleOutputs : EncoderState → List (List ℕ) → List ℕ → Type 0
HasAmpleOutputs before pieces lengths = AreAmple 4 (length (encoded before (joined pieces) true)) pieces lengths

-- ---- runs of the same scalars

-- Some finished run from the state gives these events, with outputs of some lengths, over pieces that together are
-- these scalars. The pieces may be in UTF-8 or UTF-16.
pub record FinishedEncodeRun (before : EncoderState) (scalars : List ℕ) (answered : List EncodeEvent) : Type 0 where
  pub pieces : List (List ℕ)
  pub same : joined pieces ≡ scalars
  pub lengths : List ℕ
  pub calls : ℕ
  pub after : EncoderState
  pub run : IsEncodeRun (place_before before pieces) lengths calls true answered after

-- Two finished runs from one state over the same scalars give the same events. The scalars may be cut in any way and
-- come from either source, and the outputs may have any lengths.
abbrev pub EncodeCutsDoNotMatter : Type 0
EncodeCutsDoNotMatter =
    (before : EncoderState) (scalars : List ℕ) (one other : List EncodeEvent) →
    FinishedEncodeRun before scalars one → FinishedEncodeRun before scalars other → one ≡ other
