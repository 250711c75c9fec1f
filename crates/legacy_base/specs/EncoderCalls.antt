-- The law of one call of an encoder.
use Rattle.std.specs.Prelude.{◌≡◌, ◌≢◌, ℕ, ◌+◌, ◌-◌, ◌<◌, ◌≤◌, List, [], ◌∷◌, ◌++◌, length, take, slice_index, map, Bool, false, IsTrue, Some, ◌⊎◌}
use Rattle.legacy_base.specs.declared.results.EncodeEvent.{EncodeEvent}
use Rattle.legacy_base.specs.declared.results.EncodeEvent.TheVariants.{Byte}
use Rattle.legacy_base.specs.declared.results.EncodeEvent.TheVariants as events
use Rattle.legacy_base.specs.declared.results.EncoderResult.{EncoderResult}
use Rattle.legacy_base.specs.declared.results.EncoderResult.TheVariants.{InputEmpty, OutputFull, Unmappable}
use Rattle.legacy_text.specs.EncodingForm.{EncodingForm, total_unit_count}
use Rattle.legacy_base.specs.Beginnings.{BeginsWith}
use Rattle.legacy_base.specs.EncodeEvents.{byte_count, code_length}
use Rattle.legacy_base.specs.Encoders.{EncoderState, code, encoded, end_bytes, scalar_need, encoder_need, encoder_answer, encoder_total_need}

-- the event that a result reports
abbrev pub reported : EncoderResult → List EncodeEvent
reported InputEmpty = []
reported OutputFull = []
reported (Unmappable c) = events.Unmappable c ∷ []

-- the result shows that the end of the text was written
abbrev pub tells_end : Bool → EncoderResult → Bool
tells_end last InputEmpty = last
tells_end last OutputFull = false
tells_end last (Unmappable c) = false

-- the next act needs more than is free
abbrev pub EncoderLacksRoom : EncoderState → List ℕ → Bool → ℕ → Type 0
EncoderLacksRoom state unread last free = free < encoder_need state unread last

-- the number of bytes that a text and then the scalar c give, without the own bytes of c
abbrev pub bytes_before : EncoderState → List ℕ → ℕ → ℕ
bytes_before state text c = byte_count (encoded state (text ++ c ∷ []) false) - code_length (code state c)

-- the text continues after the call
abbrev pub GoesOn : Bool → EncoderResult → Type 0
GoesOn last InputEmpty = last ≡ false
GoesOn last OutputFull = ⊥
GoesOn last (Unmappable c) = Unit {0}

-- A call from the state `before` with the scalars `source` and `free` free bytes. It returned a result, left the state
-- `after` and the scalars `left`, and wrote `bytes`.
pub record EncoderCall (before : EncoderState) (source : List ℕ) (last : Bool) (free : ℕ) (after : EncoderState)
    (answer : EncoderResult) (left bytes : List ℕ) : Type 0 where
  -- the scalars that were read; with those left they are the source
  pub taken : List ℕ
  pub cut : source ≡ taken ++ left
  -- the codec and its lists stay
  pub codec : after.codec ≡ before.codec
  -- at most the free bytes are written
  pub fits : length bytes ≤ free
  -- All events are the bytes written, the report, and then the events of the scalars left. This holds for the source
  -- with any text after it, ended or not, also after a last call. If the end was written, it holds if no text follows,
  -- or if the events with the text that follows still begin so.
  pub events : (more : List ℕ) (ended : Bool) →
      (IsTrue (tells_end last answer) →
      ((more ≡ []) × IsTrue ended) ⊎ BeginsWith (encoded before (source ++ more) ended) (map Byte bytes ++ reported answer)) →
      encoded before (source ++ more) ended ≡ map Byte bytes ++ (reported answer ++ encoded after (left ++ more) ended)
  -- at InputEmpty all scalars are read; on a last call the end has nothing left to write
  pub input_empty : answer ≡ InputEmpty → (left ≡ []) × (IsTrue last → end_bytes after ≡ [])
  -- at OutputFull the next act needs more than is free
  pub output_full : answer ≡ OutputFull → EncoderLacksRoom after left last (free - length bytes)
  -- if the next act lacks room when the call begins, the result is OutputFull and nothing is done
  pub full_at_once : EncoderLacksRoom before source last free → (answer ≡ OutputFull) × (left ≡ source) × (bytes ≡ []) × (after ≡ before)
  -- before the own bytes, or the report, of each scalar read, what it needs was free
  pub had_room : (k : ℕ) → k < length taken →
      bytes_before before (take k taken) (slice_index taken k) + scalar_need before (slice_index taken k) ≤ free
  -- the written bytes lower the need
  pub lowers : (form : EncodingForm) (more : ℕ) → GoesOn last answer →
      encoder_total_need form after (total_unit_count form left + more) + length bytes ≤ encoder_total_need form before (total_unit_count form source + more)
  -- at the end of the text, the written bytes are at most what was needed
  pub ends : (form : EncodingForm) → answer ≡ InputEmpty → IsTrue last →
      length bytes ≤ encoder_total_need form before (total_unit_count form source)
  -- if what the source needs is free, the result is not OutputFull
  pub suffices : (form : EncodingForm) → encoder_total_need form before (total_unit_count form source) ≤ free → answer ≢ OutputFull
  -- with the length returned by a query for at least as many code units free, the result is not OutputFull
  pub enough : (form : EncodingForm) (n k : ℕ) → total_unit_count form source ≤ n → encoder_answer form before n ≡ Some k → k ≤ free → answer ≢ OutputFull
