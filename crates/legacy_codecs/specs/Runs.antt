-- Runs of a decoder: its calls over an input in pieces, with outputs of given lengths.
use Rattle.std.specs.Prelude.{◌≡◌, ℕ, ◌+◌, ◌-◌, ◌≤◌, List, [], ◌∷◌, ◌++◌, length, drop, slice_get, Bool, true, false, Some}
use Rattle.legacy_base.specs.declared.results.DecodeEvent.{DecodeEvent}
use Rattle.legacy_base.specs.declared.results.DecodeEvent.TheVariants.{Scalar, Bad}
use Rattle.legacy_base.specs.declared.results.DecoderResult.{DecoderResult}
use Rattle.legacy_base.specs.declared.results.DecoderResult.TheVariants.{InputEmpty, OutputFull, Malformed}
use Rattle.legacy_text.specs.EncodingForm.{EncodingForm, wide_need}
use Rattle.legacy_base.specs.Events.{shift}
use Rattle.legacy_base.specs.Grammar.{events_of}
use Rattle.legacy_base.specs.States.{DecoderState}
use Rattle.legacy_base.specs.Calls.{DecoderCall, out_events}
use Rattle.legacy_codecs.specs.Pieces.{joined, AreAmple, RunPlace, is_none, place_before, place_after, ends_run}

-- the call returned InputEmpty
abbrev pub is_input_empty : DecoderResult → Bool
is_input_empty InputEmpty = true
is_input_empty OutputFull = false
is_input_empty (Malformed length back) = false

-- ---- the calls of a run

-- Calls from one place to another, which gave these events and are done with `passed` bytes. Each has an output of the
-- next of the lengths, and `last` is set if the piece is the last. Bytes and places count from the first byte that was
-- held back at the start.
pub data Reaches (form : EncodingForm) (from : RunPlace DecoderState) (lengths : List ℕ)
    : ℕ → List DecodeEvent → ℕ → Bool → RunPlace DecoderState → Type 0 where
  begun : Reaches form from lengths 0 [] 0 false from
  called : (calls : ℕ) (events : List DecodeEvent) (passed : ℕ) (p : RunPlace DecoderState) → Reaches form from lengths calls events passed false p →
      (free : ℕ) → slice_get lengths calls ≡ Some free →
      (after : DecoderState) (answer : DecoderResult) (read : ℕ) (scalars : List ℕ) →
      (c : DecoderCall form p.state p.piece (is_none p.later) free after answer read scalars) →
      Reaches form from lengths (calls + 1) (events ++ shift passed (out_events (length p.state.held + read) scalars answer))
      (passed + c.passed) (ends_run p (is_input_empty answer)) (place_after p after (is_input_empty answer) (drop read p.piece))

-- the event with its place counted from the first byte after the `held` ones; an earlier place is 0
abbrev pub placed_event : ℕ → DecodeEvent → DecodeEvent
placed_event held (Scalar c) = Scalar c
placed_event held (Bad place length) = Bad (place - held) length

-- each event of a list with such a place
unfoldable pub placed : ℕ → List DecodeEvent → List DecodeEvent
placed held [] = []
placed held (event ∷ events) = placed_event held event ∷ placed held events

-- ---- the result of a run

-- A run from a place gave these events, with places counted from its first byte, and ends in this state. It makes one
-- call for each length, or fewer if it is finished earlier.
pub record IsRun (form : EncodingForm) (from : RunPlace DecoderState) (lengths : List ℕ) (calls : ℕ) (finished : Bool)
    (answered : List DecodeEvent) (after : DecoderState) : Type 0 where
  pub events : List DecodeEvent
  pub passed : ℕ
  pub place : RunPlace DecoderState
  pub reaches : Reaches form from lengths calls events passed finished place
  pub state : place.state ≡ after
  pub placed_is : answered ≡ placed (length from.state.held) events
  pub few : calls ≤ length lengths
  pub all : finished ≡ false → calls ≡ length lengths

-- The events are a prefix of the grammar's events of the held-back bytes and all pieces, and all of them if the run is
-- finished.
pub record IsBeginning (before : DecoderState) (pieces : List (List ℕ)) (finished : Bool) (answered : List DecodeEvent) : Type 0 where
  pub rest : List DecodeEvent
  pub whole : placed (length before.held) (events_of before.grammar (before.held ++ joined pieces)) ≡ answered ++ rest
  pub all : finished ≡ true → rest ≡ []

-- Nothing is left in a state: what is held back has no events.
abbrev pub HasNoneLeft : DecoderState → Type 0
HasNoneLeft state = events_of state.grammar state.held ≡ []

-- Each output has room for any scalar, and there are at least as many as the whole input has events and pieces.
abbrev pub HasAmpleLengths : EncodingForm → DecoderState → List (List ℕ) → List ℕ → Type 0
HasAmpleLengths form before pieces lengths =
    AreAmple (wide_need form) (length (events_of before.grammar (before.held ++ joined pieces))) pieces lengths

-- ---- runs of the same bytes

-- Some finished run from the state gives these events, in some encoding form, with outputs of some lengths, over pieces
-- that together are these bytes.
pub record FinishedRun (before : DecoderState) (bytes : List ℕ) (answered : List DecodeEvent) : Type 0 where
  pub form : EncodingForm
  pub pieces : List (List ℕ)
  pub same : joined pieces ≡ bytes
  pub lengths : List ℕ
  pub calls : ℕ
  pub after : DecoderState
  pub run : IsRun form (place_before before pieces) lengths calls true answered after

-- Two finished runs from one state over the same bytes give the same events with the same places and lengths. The bytes
-- may be cut in any way, and the outputs may be of UTF-8 or UTF-16 and of any lengths.
abbrev pub CutsDoNotMatter : Type 0
CutsDoNotMatter =
    (before : DecoderState) (bytes : List ℕ) (one other : List DecodeEvent) →
    FinishedRun before bytes one → FinishedRun before bytes other → one ≡ other
