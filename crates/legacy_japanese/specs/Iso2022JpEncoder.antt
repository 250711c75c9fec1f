-- The state of the ISO-2022-JP encoder between two calls, and its moves.
use Rattle.std.proofs.Common.{◌≡◌, ◌≢◌, ℕ, ◌+◌, ◌*◌, ◌/◌, ◌%◌, [], ◌∷◌, Some, arith}
use Rattle.{std.specs.Char.IsScalar, legacy_tables.specs.Indexes.FlatIndexes, legacy_text.specs.UnitCodes.IsNoSurrogate}
use Rattle.legacy_base.specs.Iso2022Jp.{iso_2022_jp_code, iso_2022_jp_reported, mode_after_text}
use Rattle.legacy_base.specs.{declared.modes.EncoderMode.EncoderMode, Encoders.{EncoderState, iso_2022_jp}}
use Rattle.legacy_encoder_engine.specs.{Moves.IsCode, CachedPairs.IsNoPair, WrittenUnits.two_bytes, declared.moves.EncoderMove.EncoderMove}

-- the codec with these indexes, in a mode
abbrev pub state_in : FlatIndexes → EncoderMode → EncoderState
state_in flat mode = record { codec = iso_2022_jp flat.jis0208 flat.katakana; mode = mode }

-- ---- internal definitions

-- In `mode` the scalar c needs the mode `new`, in which `move` encodes it.
pub record Asks (flat : FlatIndexes) (mode : EncoderMode) (c : ℕ) (new : EncoderMode) (move : EncoderMove) : Type 0 where
  pub mode_is : mode_after_text flat.jis0208 flat.katakana mode (c ∷ []) ≡ new
  pub code_is : IsCode (iso_2022_jp_code flat.jis0208 flat.katakana c) (iso_2022_jp_reported c) move

-- ---- a list of pairs, each with its lead in the low byte and its trail in the high byte

-- the entry is the pair of the scalar c, or 0
abbrev pub IsListedEntry : FlatIndexes → ℕ → ℕ → Type 0
IsListedEntry flat c entry = entry ≢ 0 → IsNoSurrogate c × (iso_2022_jp_code flat.jis0208 flat.katakana c ≡ Some (two_bytes entry))

-- the code of the scalar c is not a lead and a trail
abbrev pub HasNoPair : FlatIndexes → ℕ → Type 0
HasNoPair flat c = IsNoPair (iso_2022_jp flat.jis0208 flat.katakana) c

-- the entry is the pair of the scalar c, or 0 if it has none
pub record IsWholeEntry (flat : FlatIndexes) (c entry : ℕ) : Type 0 where
  pub told : IsListedEntry flat c entry
  pub whole : IsScalar c → entry ≡ 0 → HasNoPair flat c

-- the entry of a pointer
abbrev pub iso_2022_jp_mark : ℕ → ℕ
iso_2022_jp_mark p = (p / 94 + 0x21) + 256 * (p % 94 + 0x21)

-- no such entry is 0
pub iso_2022_jp_mark-some : (p : ℕ) → iso_2022_jp_mark p ≢ 0
iso_2022_jp_mark-some p e = omega arith
