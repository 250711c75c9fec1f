-- What `recode` writes.
use Rattle.std.specs.Prelude.{ℕ, List, length, Bool, Option}
use Rattle.std.specs.Io.KnownBytes.{Appends}
use Rattle.legacy_base.specs.declared.results.DecodeEvent.{DecodeEvent}
use Rattle.legacy_base.specs.Events.{shift}
use Rattle.legacy_base.specs.States.{DecoderState}
use Rattle.legacy_codecs.specs.Runs.{placed}
use Rattle.legacy_streams.specs.Lines.{event_lines}
use Rattle.legacy_streams.specs.Streams.{AppendsFront, AppendsAtLeast, DecodesPiece, DecodesFront, DecodesAll, DecodesBeginning, DecodesPartly}

-- ---- one piece of the input

-- The events of the held-back bytes and a piece, with their places in the whole input. `total` bytes of the input come
-- before the piece, and the held-back bytes are the last of them. A place before the input is 0.
unfoldable pub input_events : ℕ → ℕ → List DecodeEvent → List DecodeEvent
input_events total held events = placed held (shift total events)

-- the lines of the events of a piece
abbrev pub piece_lines : ℕ → DecoderState → List DecodeEvent → List ℕ
piece_lines total before events = event_lines (input_events total (length before.held) events)

-- the whole piece was decoded, and the lines of its events were written
abbrev pub RecodesPiece : DecoderState → List ℕ → Bool → ℕ → DecoderState → Option (List ℕ) → Option (List ℕ) → Type 0
RecodesPiece before piece last total after old new = DecodesPiece before piece last after (λ events. Appends old new (piece_lines total before events))

-- a part of the piece was decoded, and a front of the lines of its events was written, which may end inside a line
abbrev pub RecodesFront : DecoderState → List ℕ → Bool → ℕ → DecoderState → Option (List ℕ) → Option (List ℕ) → Type 0
RecodesFront before piece last total after old new = DecodesFront before piece last after (λ events. AppendsFront old new (piece_lines total before events))

-- ---- the whole input

-- the lines of events from the beginning of the input on
abbrev pub lines_of : DecoderState → List DecodeEvent → List ℕ
lines_of before events = event_lines (placed (length before.held) events)

-- the input was read to its end, and the lines of all events of the held-back and read bytes were written
abbrev pub RecodesAll : DecoderState → DecoderState → Option (List ℕ) → Option (List ℕ) → Option (List ℕ) → Option (List ℕ) → Type 0
RecodesAll before after input_old input_new output_old output_new =
    DecodesAll before after input_old input_new (λ events. Appends output_old output_new (lines_of before events))

-- some bytes of the input were read and decoded, and the lines of their events were written
abbrev pub RecodesBeginning : DecoderState → DecoderState → Option (List ℕ) → Option (List ℕ) → Option (List ℕ) → Option (List ℕ) → Type 0
RecodesBeginning before after input_old input_new output_old output_new =
    DecodesBeginning before after input_old input_new (λ events. Appends output_old output_new (lines_of before events))

-- Some bytes of the input were read, and a part of them was decoded. A front of the lines of its events was written,
-- which may end inside a line. The lines of all pieces before the last one were written.
abbrev pub RecodesPartly : DecoderState → DecoderState → Option (List ℕ) → Option (List ℕ) → Option (List ℕ) → Option (List ℕ) → Type 0
RecodesPartly before after input_old input_new output_old output_new =
    DecodesPartly before after input_old input_new (λ events. AppendsAtLeast output_old output_new (lines_of before events))
    (λ events. AppendsFront output_old output_new (lines_of before events))
