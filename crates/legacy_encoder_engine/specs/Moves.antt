-- The moves of an encoder, of which its calls consist.
use Rattle.std.specs.Prelude.{◌≡◌, ℕ, ◌≤◌, List, [], ◌∷◌, ◌++◌, length, map, Bool, true, false, IsTrue, Option, Some, None, ◌⊎◌}
use Rattle.legacy_base.specs.declared.results.{EncodeEvent.EncodeEvent, EncodeEvent.TheVariants.Byte}
use Rattle.legacy_base.specs.Encoders.{EncoderState, encoder_profile, code, encoded, end_bytes, scalar_need}
use Rattle.legacy_base.specs.{Beginnings.BeginsWith, EncodeEvents.code_length, EncoderProfile.differs}
use Rattle.legacy_encoder_engine.specs.declared.moves.EncoderMove.TheVariants.{One, Two, Four, Escape, Unmappable}
use Rattle.legacy_encoder_engine.specs.declared.moves.EncoderMove.{EncoderMove}
use Rattle.legacy_base.specs.declared.results.EncodeEvent.TheVariants as events

-- the bytes of a move
abbrev pub move_bytes : EncoderMove → List ℕ
move_bytes (One a) = a ∷ []
move_bytes (Two a b) = a ∷ b ∷ []
move_bytes (Four a b c d) = a ∷ b ∷ c ∷ d ∷ []
move_bytes (Escape a b) = 0x1B ∷ a ∷ b ∷ []
move_bytes (Unmappable c) = []

-- the report of a move
abbrev pub move_report : EncoderMove → List EncodeEvent
move_report (Unmappable c) = events.Unmappable c ∷ []
move_report _ = []

-- the scalar, if the move does not read it
abbrev pub unread_scalar : EncoderMove → ℕ → List ℕ
unread_scalar (Escape a b) c = c ∷ []
unread_scalar _ c = []

-- the move is an escape
abbrev pub is_escape : EncoderMove → Bool
is_escape (Escape a b) = true
is_escape _ = false

-- the scalar c needs an escape before it
abbrev pub wants_escape : EncoderState → ℕ → Bool
wants_escape state c = differs state.mode ((encoder_profile state.codec).mode_for state.mode c)

-- the state after the scalar c, or after the escape before it
abbrev pub state_for : EncoderState → ℕ → EncoderState
state_for state c = record { codec = state.codec; mode = (encoder_profile state.codec).mode_for state.mode c }

-- a move is correct for the next scalar c, whatever text follows
pub record Moves (before : EncoderState) (c : ℕ) (after : EncoderState) (move : EncoderMove) : Type 0 where
  pub events : (more : List ℕ) (ended : Bool) →
      encoded before (c ∷ more) ended ≡ map Byte (move_bytes move) ++ (move_report move ++ encoded after (unread_scalar move c ++ more) ended)
  -- the bytes are the code of the scalar, or an escape
  pub own : is_escape move ≡ false → code_length (code before c) ≡ length (move_bytes move)
  pub fits : length (move_bytes move) ≤ scalar_need before c
  -- an escape goes to the mode of the scalar; the scalar is read in the current mode
  pub asks : is_escape move ≡ wants_escape before c
  pub goes : after ≡ state_for before c

-- the escape at the end of the last call, also if a text follows whose events begin with it
pub record Finishes (before after : EncoderState) : Type 0 where
  pub events : (more : List ℕ) (ended : Bool) →
      ((more ≡ []) × IsTrue ended) ⊎ BeginsWith (encoded before more ended) (map Byte (0x1B ∷ 0x28 ∷ 0x42 ∷ [])) →
      encoded before more ended ≡ map Byte (0x1B ∷ 0x28 ∷ 0x42 ∷ []) ++ encoded after more ended
  pub done : end_bytes after ≡ []
  pub codec : after.codec ≡ before.codec

-- the move writes the code of the scalar c, in a codec without modes
abbrev pub IsCode : Option (List ℕ) → ℕ → EncoderMove → Type 0
IsCode own c (One x) = own ≡ Some (x ∷ [])
IsCode own c (Two x y) = own ≡ Some (x ∷ y ∷ [])
IsCode own c (Four x y z w) = own ≡ Some (x ∷ y ∷ z ∷ w ∷ [])
IsCode own c (Escape x y) = ⊥
IsCode own c (Unmappable reported) = (own ≡ None) × (reported ≡ c)
