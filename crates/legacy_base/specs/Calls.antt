-- The law of one call of a decoder.
use Rattle.std.specs.Prelude.{◌≡◌, ◌≢◌, ℕ, ◌+◌, ◌-◌, ◌<◌, ◌≤◌, List, [], ◌∷◌, ◌++◌, drop, length, map, Bool, false, IsTrue, All, Some, ◌&&◌, ◌⊎◌}
use Rattle.std.specs.Char.{IsScalar}
use Rattle.legacy_base.specs.declared.results.DecodeEvent.{DecodeEvent}
use Rattle.legacy_base.specs.declared.results.DecodeEvent.TheVariants.{Scalar, Bad}
use Rattle.legacy_base.specs.declared.results.DecoderResult.{DecoderResult}
use Rattle.legacy_base.specs.declared.results.DecoderResult.TheVariants.{InputEmpty, OutputFull, Malformed}
use Rattle.legacy_text.specs.EncodingForm.{EncodingForm, all_code_units, total_unit_count}
use Rattle.legacy_base.specs.Events.{shift}
use Rattle.legacy_base.specs.Beginnings.{BeginsWith}
use Rattle.legacy_base.specs.Profile.{is_empty}
use Rattle.legacy_base.specs.Grammar.{as_new, events_of}
use Rattle.legacy_base.specs.States.{DecoderState, may_hold, rests}
use Rattle.legacy_base.specs.DecoderActs.{LacksRoom, HadRooms, malformed_need, full_need_in}
use Rattle.legacy_base.specs.Lengths.{LengthQuery, query_form, query_answer, answer_units, total_need}

-- The malformed sequence that a result reports. It has `length` bytes and ends `back` bytes before the end of the
-- `seen` bytes, which were held back before the call or read by it.
abbrev pub reported_events : ℕ → DecoderResult → List DecodeEvent
reported_events seen InputEmpty = []
reported_events seen OutputFull = []
reported_events seen (Malformed length back) = Bad (seen - back - length) length ∷ []

-- the events of a call: the scalars that it wrote, and then what its result reports
abbrev pub out_events : ℕ → List ℕ → DecoderResult → List DecodeEvent
out_events seen scalars answer = map Scalar scalars ++ reported_events seen answer

-- The result may report a sequence that is malformed only because the input ends: Malformed on a last call, with
-- nothing unread.
abbrev pub may_report_end : Bool → DecoderResult → List ℕ → Bool
may_report_end last InputEmpty left = false
may_report_end last OutputFull left = false
may_report_end last (Malformed length back) left = last && is_empty left

-- A decoder goes from the state `before`, with the bytes `source`, to the state `after`, with the bytes `left`. It is
-- done with `passed` of the held-back bytes and the source. The rest is held back or left. All events are `out` and
-- then the events of the rest, whatever bytes follow, also after a last call. The exception is a report at the end
-- (`ended`), because the bytes that follow can change what was reported. Then this holds if no bytes follow, or if the
-- events with the bytes that follow still begin with `out`. Also then the codec, its lists and its byte order stay.
pub record Progress (ended : Bool) (before : DecoderState) (source : List ℕ) (passed : ℕ) (after : DecoderState) (left : List ℕ)
    (out : List DecodeEvent) : Type 0 where
  -- the bytes done with, held back and left are as many as were held back and in the source
  pub counts : passed + (length after.held + length left) ≡ length before.held + length source
  -- the bytes held back and left are the rest, byte for byte
  pub rest : drop passed (before.held ++ source) ≡ after.held ++ left
  -- the codec, its lists and its byte order stay
  pub codec : as_new after.grammar ≡ as_new before.grammar
  -- all events are `out`, and then those of the rest, whatever bytes follow
  pub events : (more : List ℕ) →
      (IsTrue ended → (more ≡ []) ⊎ BeginsWith (events_of before.grammar (before.held ++ (source ++ more))) out) →
      events_of before.grammar (before.held ++ (source ++ more))
      ≡ out ++ shift passed (events_of after.grammar (after.held ++ (left ++ more)))

-- A byte that is malformed by itself if nothing is held back, whatever bytes follow. It leaves the state unchanged.
pub record IsMalformedByte (state : DecoderState) (byte : ℕ) : Type 0 where
  pub empty : state.held ≡ []
  pub progress : Progress false state (byte ∷ []) 1 state [] (Bad 0 1 ∷ [])

-- A malformed sequence has one to four bytes and lies among the `seen` bytes. The bytes after it, at most three, are
-- those held back.
pub record IsMalformedSequence (seen : ℕ) (after : DecoderState) (sequence back : ℕ) : Type 0 where
  -- it has at least one byte
  pub some : 1 ≤ sequence
  -- it has at most four bytes
  pub few : sequence ≤ 4
  -- at most three bytes follow it
  pub near : back ≤ 3
  -- these are the held-back bytes
  pub held : back ≡ length after.held
  -- the sequence and the bytes after it are among the bytes seen
  pub within : sequence + back ≤ seen

-- the same for the malformed sequence of a result, if it reports one
abbrev pub HoldsBack : ℕ → DecoderState → DecoderResult → Type 0
HoldsBack seen after InputEmpty = Unit {0}
HoldsBack seen after OutputFull = Unit {0}
HoldsBack seen after (Malformed length back) = IsMalformedSequence seen after length back

-- the result reports a malformed sequence
abbrev pub IsMalformed : DecoderResult → Type 0
IsMalformed InputEmpty = ⊥
IsMalformed OutputFull = ⊥
IsMalformed (Malformed length back) = Unit {0}

-- A call from the state `before` with `free` free code units. It read `read` bytes of the source, wrote the scalars,
-- returned a result and left the state `after`.
pub record DecoderCall (form : EncodingForm) (before : DecoderState) (source : List ℕ) (last : Bool) (free : ℕ) (after : DecoderState)
    (answer : DecoderResult) (read : ℕ) (scalars : List ℕ) : Type 0 where
  -- at most the whole source is read
  pub within : read ≤ length source
  -- at most the free code units are written
  pub fits : total_unit_count form scalars ≤ free
  -- the scalars are Unicode scalar values
  pub scalar : All IsScalar scalars
  -- the number of bytes done with, of those held back and the source
  pub passed : ℕ
  -- the events of the call, and then those of the bytes left, are the grammar's events, whatever bytes follow; after a
  -- report at the end, only if the events still begin so
  pub progress : Progress (may_report_end last answer (drop read source)) before source passed after (drop read source)
      (out_events (length before.held + read) scalars answer)
  -- the codec may hold back these bytes
  pub allowed : IsTrue (may_hold after.grammar after.held)
  -- the sequence of Malformed has one to four bytes among the bytes seen, and the bytes after it are those held back
  pub malformed_sequence : HoldsBack (length before.held + read) after answer
  -- at InputEmpty all bytes are read and no scalar is held back; on a last call no events are left
  pub input_empty : answer ≡ InputEmpty → (read ≡ length source) × IsTrue (rests after.grammar after.held)
      × (IsTrue last → events_of after.grammar after.held ≡ [])
  -- at OutputFull the next act needs more than is free
  pub output_full : answer ≡ OutputFull → LacksRoom form after (drop read source) last (free - total_unit_count form scalars)
  -- if the next act lacks room when the call begins, the result is OutputFull and nothing is done
  pub full_at_once : LacksRoom form before source last free → (answer ≡ OutputFull) × (read ≡ 0) × (scalars ≡ []) × (after ≡ before)
  -- after a malformed sequence there is room for U+FFFD
  pub room_after_malformed : IsMalformed answer → malformed_need form before.grammar read ≤ free - total_unit_count form scalars
  -- if a byte was read and bytes are held back, there is room for reading a byte past ASCII
  pub room_held : 0 < read → after.held ≢ [] → full_need_in form before.grammar ≤ free - total_unit_count form scalars
  -- each scalar was written where what it needs was free
  pub had_room : HadRooms form before free scalars
  -- the written scalars, and U+FFFD if the query counts it, lower the need
  pub lowers : (query : LengthQuery) → query_form query ≡ form → (more : ℕ) → (IsTrue last → more ≡ 0) →
      total_need query after (length (drop read source) + more) + (total_unit_count form scalars + answer_units query answer)
      ≤ total_need query before (length source + more)
  -- if what the source needs is free, the result is not OutputFull
  pub suffices : (query : LengthQuery) → query_form query ≡ form → total_need query before (length source) ≤ free → answer ≢ OutputFull
  -- with the length returned by a query for at least as many bytes free, the result is not OutputFull
  pub enough : (query : LengthQuery) → query_form query ≡ form → (n k : ℕ) → length source ≤ n
      → query_answer query before n ≡ Some k → k ≤ free → answer ≢ OutputFull

-- a call, by the contents of the destination before and after it
abbrev pub IsDecoderCall : EncodingForm → DecoderState → List ℕ → Bool → ℕ → DecoderState → DecoderResult → ℕ → List ℕ → List ℕ → Type 0
IsDecoderCall form before source last free after answer read old new =
    (scalars : List ℕ) × DecoderCall form before source last free after answer read scalars
    × (new ≡ old ++ all_code_units form scalars)
