-- Writing several UTF-16 code units at a time.
use Rattle.std.specs.Prelude.{◌≡◌, ℕ, ◌/◌, ◌%◌, ◌<◌, ◌≤◌, List, [], ◌∷◌, ◌++◌, take, Some, false}
use Rattle.legacy_base.specs.Encoders.{Codec, EncoderState, encoder_profile}
use Rattle.legacy_text.specs.{UnitCodes.IsNoSurrogate, UnitTurns.AreNoSurrogates}
use Rattle.legacy_encoder_engine.specs.declared.moves.EncoderMove.{EncoderMove}
use Rattle.legacy_encoder_engine.specs.Moves.{Moves, is_escape, move_bytes, move_report}
use Rattle.legacy_encoder_engine.specs.UnfinishedCall.{KeepsOn}

-- the code of the scalar c is the low byte of `both` for ASCII, and its low and high bytes for other scalars
pub record HasUnitCode (codec : Codec) (c both : ℕ) : Type 0 where
  pub ascii : c < 0x80 → (encoder_profile codec).code c ≡ Some (both % 256 ∷ [])
  pub past : 0x80 ≤ c → (encoder_profile codec).code c ≡ Some (both % 256 ∷ both / 256 ∷ [])

-- the low and the high byte of a number
abbrev pub two_bytes : ℕ → List ℕ
two_bytes both = both % 256 ∷ both / 256 ∷ []

-- the code unit c is a scalar that is read in this state, with the low byte of `both` or both bytes
pub record ReadsUnit (state : EncoderState) (c both count : ℕ) : Type 0 where
  pub bmp : IsNoSurrogate c
  pub move : EncoderMove
  pub moves : Moves state c state move
  pub reads : is_escape move ≡ false
  pub silent : move_report move ≡ []
  pub bytes : move_bytes move ≡ take count (two_bytes both)

-- The codes of code units that are scalars are appended to earlier bytes, whatever code units follow.
pub record PutsUnits (state : EncoderState) (free : ℕ) (units old new : List ℕ) : Type 0 where
  pub bmp : AreNoSurrogates units
  pub keeps : (rest : List ℕ) → KeepsOn state free (units ++ rest) old rest new
