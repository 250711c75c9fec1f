-- The codes of a codec's scalars below U+10000 as a list of entries. An entry has the lead in its low byte and the
-- trail in its high byte, or the byte of an ASCII scalar.
use Rattle.std.specs.Prelude.{◌≡◌, ◌≢◌, ℕ, ◌+◌, ◌<◌, ◌≤◌, List, [], ◌∷◌, Some, length, slice_index, ◌⊎◌}
use Rattle.std.specs.Char.{IsScalar}
use Rattle.legacy_text.specs.UnitCodes.{IsNoSurrogate}
use Rattle.legacy_base.specs.Encoders.{Codec, encoder_profile}
use Rattle.legacy_encoder_engine.specs.WrittenUnits.{HasUnitCode}

-- the entry is the code of the scalar c, or 0
abbrev pub IsPairEntry : Codec → ℕ → ℕ → Type 0
IsPairEntry codec c entry = entry ≢ 0 → IsNoSurrogate c × HasUnitCode codec c entry

-- all entries are such codes or 0
pub record ArePairsOf (codec : Codec) (pairs : List ℕ) : Type 0 where
  pub all : length pairs ≡ 65536
  pub told : (c : ℕ) → c < 65536 → IsPairEntry codec c (slice_index pairs c)

-- the code of the scalar c is not a lead and a trail, except two bytes 00
abbrev pub IsNoPair : Codec → ℕ → Type 0
IsNoPair codec c = (lead trail : ℕ) → (encoder_profile codec).code c ≡ Some (lead ∷ trail ∷ []) → lead + trail ≡ 0

-- no pair is missing: if the entry of a scalar past ASCII is 0, the scalar has none
pub record AreAllPairsOf (codec : Codec) (pairs : List ℕ) : Type 0 where
  pub right : ArePairsOf codec pairs
  pub whole : (c : ℕ) → c < 65536 → IsScalar c → 0x80 ≤ c → slice_index pairs c ≡ 0 → IsNoPair codec c

-- the entry is right for the scalar c, and no pair is missing
pub record IsRightEntry (codec : Codec) (c entry : ℕ) : Type 0 where
  pub told : IsPairEntry codec c entry
  pub whole : IsScalar c → 0x80 ≤ c → entry ≡ 0 → IsNoPair codec c

-- the scalar is not in the range from `first` to before `end`
abbrev pub IsOutside : ℕ → ℕ → ℕ → Type 0
IsOutside first end c = (c < first) ⊎ (end ≤ c)
