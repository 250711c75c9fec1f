-- Calls of a decoder that write U+FFFD for each malformed sequence.
use Rattle.std.specs.Prelude.{◌≡◌, ◌≢◌, ℕ, ◌+◌, ◌-◌, ◌<◌, ◌≤◌, List, [], ◌∷◌, ◌++◌, length, drop, map, Bool, true, false, IsTrue, All, Some, ◌&&◌}
use Rattle.std.specs.Char.{IsScalar}
use Rattle.std.specs.List.{list_any}
use Rattle.legacy_base.specs.declared.results.DecodeEvent.{DecodeEvent}
use Rattle.legacy_base.specs.declared.results.DecodeEvent.TheVariants.{Scalar, Bad}
use Rattle.legacy_base.specs.declared.results.DecoderResult.{DecoderResult}
use Rattle.legacy_base.specs.declared.results.DecoderResult.TheVariants as raw
use Rattle.legacy_text.specs.EncodingForm.{EncodingForm, Utf8, Utf16, all_code_units, total_unit_count}
use Rattle.legacy_base.specs.Grammar.{events_of}
use Rattle.legacy_base.specs.Profile.{is_empty}
use Rattle.legacy_base.specs.States.{DecoderState, may_hold, rests}
use Rattle.legacy_base.specs.DecoderActs.{LacksRoom, full_need_in}
use Rattle.legacy_base.specs.Lengths.{LengthQuery, to_utf16, to_utf8, query_answer, total_need}
use Rattle.legacy_base.specs.Calls.{Progress, DecoderCall}
use Rattle.legacy_codecs.specs.declared.results.CoderResult.{CoderResult}
use Rattle.legacy_codecs.specs.declared.results.CoderResult.TheVariants.{InputEmpty, OutputFull}

-- the scalar that is written for an event: U+FFFD for a malformed sequence
abbrev pub replaced_scalar : DecodeEvent → ℕ
replaced_scalar (Scalar c) = c
replaced_scalar (Bad place length) = 0xFFFD

-- the scalars that are written for events
abbrev pub replaced_scalars : List DecodeEvent → List ℕ
replaced_scalars events = map replaced_scalar events

-- the event is a malformed sequence
abbrev pub is_malformed : DecodeEvent → Bool
is_malformed (Scalar c) = false
is_malformed (Bad place length) = true

-- some of the events is a malformed sequence
abbrev pub has_malformed : List DecodeEvent → Bool
has_malformed events = list_any is_malformed events

-- the length query of an encoding form that counts U+FFFD: `max_utf8_buffer_length` or `max_utf16_buffer_length`
abbrev pub replacing_query : EncodingForm → LengthQuery
replacing_query Utf8 = to_utf8
replacing_query Utf16 = to_utf16

-- The call may have found a sequence that is malformed only because the input ends: it found a malformed sequence, it
-- is a last call, and nothing is unread.
abbrev pub may_replace_end : Bool → Bool → List ℕ → Bool
may_replace_end last found left = found && (last && is_empty left)

-- ---- the raw calls

-- Raw calls that each reported a malformed sequence, after which U+FFFD was written. They lead to a state, read so many
-- bytes of the source, and wrote these scalars together.
pub data MalformedCalls (form : EncodingForm) (before : DecoderState) (source : List ℕ) (last : Bool) (free : ℕ) : DecoderState → ℕ → List ℕ → Type 0 where
  begun : MalformedCalls form before source last free before 0 []
  replaced : (now : DecoderState) (read : ℕ) (written : List ℕ) → MalformedCalls form before source last free now read written →
      (after : DecoderState) (sequence back count : ℕ) (scalars : List ℕ) →
      DecoderCall form now (drop read source) last (free - total_unit_count form written) after (raw.Malformed sequence back) count scalars →
      MalformedCalls form before source last free after (read + count) (written ++ (scalars ++ 0xFFFD ∷ []))

-- the result of a raw call that is returned so
abbrev pub raw_result : CoderResult → DecoderResult
raw_result InputEmpty = raw.InputEmpty
raw_result OutputFull = raw.OutputFull

-- Such calls, and then the raw call that gives the result. Each has all free code units that are left.
pub record IsByRawCalls (form : EncodingForm) (before : DecoderState) (source : List ℕ) (last : Bool) (free : ℕ) (after : DecoderState)
    (answer : CoderResult) (read : ℕ) (written : List ℕ) : Type 0 where
  pub now : DecoderState
  pub read_before : ℕ
  pub written_before : List ℕ
  pub replaced : MalformedCalls form before source last free now read_before written_before
  pub count : ℕ
  pub scalars : List ℕ
  pub ends : DecoderCall form now (drop read_before source) last (free - total_unit_count form written_before) after (raw_result answer) count scalars
  pub read_is : read ≡ read_before + count
  pub written_is : written ≡ written_before ++ scalars

-- ---- the law

-- A call from the state `before` with `free` code units free. It returns a result, reads `read` bytes of the source,
-- writes these code units, and goes to the state `after`. `found` is whether it found a malformed sequence.
pub record ReplacingDecoderCall (form : EncodingForm) (before : DecoderState) (source : List ℕ) (last : Bool) (free : ℕ) (after : DecoderState)
    (answer : CoderResult) (read : ℕ) (written : List ℕ) (found : Bool) : Type 0 where
  -- at most the source is read
  pub within : read ≤ length source
  -- at most the free code units are written
  pub fits : length written ≤ free
  -- the number of bytes, of those held back and of the source, that are done with
  pub passed : ℕ
  -- the events of the call
  pub out : List DecodeEvent
  -- these, and then the events of what is left, are the grammar's events, whatever bytes follow; after a malformed
  -- sequence at the end of the input, only if the events with those bytes still begin so
  pub progress : Progress (may_replace_end last found (drop read source)) before source passed after (drop read source) out
  -- the held-back bytes are some that the codec may hold back
  pub allowed : IsTrue (may_hold after.grammar after.held)
  -- if a byte was read, nothing was malformed and bytes are held back, there is room for reading a byte past ASCII
  pub room_held : 0 < read → found ≡ false → after.held ≢ [] → full_need_in form before.grammar ≤ free - length written
  -- the written scalars are Unicode scalar values
  pub scalar : All IsScalar (replaced_scalars out)
  -- the code units are those of the events, with U+FFFD for each malformed sequence
  pub text : written ≡ all_code_units form (replaced_scalars out)
  -- `found` is whether a sequence was malformed
  pub found_is : found ≡ has_malformed out
  -- it does what raw calls do, so what each scalar and each U+FFFD needs was free before it
  pub calls : IsByRawCalls form before source last free after answer read (replaced_scalars out)
  -- at InputEmpty all is read and no scalar is held back; at the last end no event is left
  pub input_empty : answer ≡ InputEmpty → (read ≡ length source) × IsTrue (rests after.grammar after.held)
      × (IsTrue last → events_of after.grammar after.held ≡ [])
  -- at OutputFull the next act lacks its room
  pub output_full : answer ≡ OutputFull → LacksRoom form after (drop read source) last (free - length written)
  -- if the next act lacks its room as the call begins, it returns OutputFull and does nothing
  pub full_at_once : LacksRoom form before source last free → (answer ≡ OutputFull) × (read ≡ 0) × (written ≡ []) × (found ≡ false) × (after ≡ before)
  -- the need falls by at least what was written
  pub lowers : (more : ℕ) → (IsTrue last → more ≡ 0) →
      total_need (replacing_query form) after (length (drop read source) + more) + length written
      ≤ total_need (replacing_query form) before (length source + more)
  -- if what the source needs is free, the result is InputEmpty
  pub suffices : total_need (replacing_query form) before (length source) ≤ free → answer ≡ InputEmpty
  -- with the length free that was queried for at least the source, the result is InputEmpty
  pub enough : (n k : ℕ) → length source ≤ n → query_answer (replacing_query form) before n ≡ Some k → k ≤ free → answer ≡ InputEmpty
