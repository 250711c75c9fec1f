-- An encoder call that is under way.
use Rattle.std.specs.Prelude.{◌≡◌, ℕ, suc, ◌+◌, ◌<◌, ◌≤◌, List, [], ◌∷◌, ◌++◌, length, map, take, slice_index, Bool, false, ◌⊎◌}
use Rattle.legacy_base.specs.declared.results.EncodeEvent.TheVariants.{Byte}
use Rattle.legacy_text.specs.EncodingForm.{EncodingForm, total_unit_count}
use Rattle.legacy_base.specs.Encoders.{EncoderState, code, encoded, scalar_need, encoder_total_need}
use Rattle.legacy_base.specs.{EncodeEvents.code_length, EncoderCalls.EncoderLacksRoom, EncoderCalls.bytes_before}
use Rattle.legacy_encoder_engine.specs.Moves.{Moves, wants_escape, is_escape, move_report, move_bytes}
use Rattle.legacy_encoder_engine.specs.declared.moves.{EncoderMove.EncoderMove, EncoderMove.TheVariants.One}
use Rattle.legacy_text.specs.declared.text_cursor.TextCursor as cursors
use Rattle.legacy_text.specs.declared.text_source.Source as sources

-- the bytes written lower the need
pub record Lowers (before : EncoderState) (source : List ℕ) (now : EncoderState) (left bytes : List ℕ) : Type 0 where
  pub low : (form : EncodingForm) (more : ℕ)
      → encoder_total_need form now (total_unit_count form left + more) + length bytes ≤ encoder_total_need form before (total_unit_count form source + more)

-- the same after an escape, counting the scalar that it was written for
pub record LowersEscaped (before : EncoderState) (source : List ℕ) (now : EncoderState) (left bytes : List ℕ) : Type 0 where
  pub c : ℕ
  pub rest : List ℕ
  pub at : left ≡ c ∷ rest
  pub settled : wants_escape now c ≡ false
  pub low : (form : EncodingForm) (more : ℕ)
      → encoder_total_need form now (total_unit_count form rest + more) + code_length (code now c) + length bytes
      ≤ encoder_total_need form before (total_unit_count form source + more)
  pub enough : (form : EncodingForm) → scalar_need now c + length bytes ≤ encoder_total_need form before (total_unit_count form source)

-- A call began in the state `before`, with the scalars `source` and `free` free bytes. It is now in the state `now`,
-- with the scalars `left` left and `bytes` written. An escape may have been written for the next scalar, so the law of
-- events is about texts that continue with it.
pub record Underway (before : EncoderState) (source : List ℕ) (last : Bool) (free : ℕ) (now : EncoderState) (left bytes : List ℕ) : Type 0 where
  pub taken : List ℕ
  pub cut : source ≡ taken ++ left
  pub events : (more : List ℕ) (ended : Bool)
      → encoded before (taken ++ (take 1 left ++ more)) ended ≡ map Byte bytes ++ encoded now (take 1 left ++ more) ended
  pub same : now.codec ≡ before.codec
  pub had_room : (k : ℕ) → k < length taken → bytes_before before (take k taken) (slice_index taken k) + scalar_need before (slice_index taken k) ≤ free
  pub fits : length bytes ≤ free
  -- if the first act lacked room, nothing was done
  pub once : EncoderLacksRoom before source last free → (left ≡ source) × (bytes ≡ []) × (now ≡ before)
  pub lowers : Lowers before source now left bytes ⊎ LowersEscaped before source now left bytes

-- In this state, with `free` free bytes, any call under way with the first scalars left and bytes written continues
-- with the second ones.
pub record KeepsOn (state : EncoderState) (free : ℕ) (left_before bytes_before left_after bytes_after : List ℕ) : Type 0 where
  pub keeps : (before : EncoderState) (source : List ℕ) (last : Bool)
      → Underway before source last free state left_before bytes_before → Underway before source last free state left_after bytes_after

-- A loop reads ahead in this state, with `free` bytes of output in all. It relates the scalars left, the code units
-- passed, the bytes written and the end of these bytes, before and after.
pub record EncodesAhead (state : EncoderState) (form : EncodingForm) (free : ℕ) (left : List ℕ) (passed : ℕ) (bytes : List ℕ) (at : ℕ)
    (left' : List ℕ) (passed' : ℕ) (bytes' : List ℕ) (at' : ℕ) : Type 0 where
  pub keeps : KeepsOn state free left bytes left' bytes'
  pub start : at ≤ at'
  pub end : at' ≤ free
  pub units : passed' + total_unit_count form left' ≡ passed + total_unit_count form left

-- a cursor is read ahead, and the bytes are written to the output from the place `at` on
abbrev pub EncodesBy : {C : Type 0} → cursors.Ghosts C → EncoderState → C → List ℕ → ℕ → C → List ℕ → ℕ → Type 0
EncodesBy S state src dst at src' dst' at' =
    EncodesAhead state S.form (length dst) (S.left src) (S.passed src) (take at dst) at (S.left src') (S.passed src') (take at' dst') at'

-- the same for a source
abbrev pub EncodesFrom : {C : Type 0} → sources.Ghosts C → EncoderState → C → List ℕ → ℕ → C → List ℕ → ℕ → Type 0
EncodesFrom S state src dst at src' dst' at' =
    EncodesAhead state S.form (length dst) (S.left src) (S.passed src) (take at dst) at (S.left src') (S.passed src') (take at' dst') at'

-- the scalar c is read in this state, with this byte
pub record ReadsByte (state : EncoderState) (room c byte : ℕ) : Type 0 where
  pub fits : scalar_need state c ≤ suc room
  pub moves : Moves state c state (One byte)

-- The bytes of the scalar c are appended to earlier bytes, which end at `at`, and end at `end`. The state is unchanged.
pub record PutsCode (state : EncoderState) (c : ℕ) (old : List ℕ) (at : ℕ) (new : List ℕ) (end : ℕ) : Type 0 where
  pub move : EncoderMove
  pub moves : Moves state c state move
  pub reads : is_escape move ≡ false
  pub silent : move_report move ≡ []
  pub bytes : new ≡ old ++ move_bytes move
  pub ends : end ≡ at + length (move_bytes move)
