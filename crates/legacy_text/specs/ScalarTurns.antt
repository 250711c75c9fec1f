-- Scalars of UTF-8 that are read several at a time, as 16-bit code units.
use Rattle.std.specs.{Prelude.{◌≡◌, ℕ, ◌+◌, ◌*◌, ◌%◌, ◌<◌, ◌≤◌, List, ◌++◌, length, drop, true, slice_index, ◌⊎◌}, Str.{chars, is_utf8}}
use Rattle.legacy_text.specs.{EncodingForm.{Utf8, total_unit_count}, UnitCodes.IsNoSurrogate, UnitTurns.AreNoSurrogates}

-- a byte with which a scalar begins: not 80 to BF
abbrev pub IsStart : ℕ → Type 0
IsStart byte = 0x80 ≤ byte → 0xC0 ≤ byte

-- the code unit is the scalar of one or three bytes with these bytes, or else a surrogate
abbrev pub IsUnitOf : ℕ → ℕ → ℕ → ℕ → Type 0
IsUnitOf first second third unit =
    IsNoSurrogate unit
    → ((first < 0x80) × (unit ≡ first)) ⊎ ((0xE0 ≤ first) × (first < 0xF0) × (unit ≡ first % 0x10 * 0x1000 + second % 0x40 * 0x40 + third % 0x40))

-- the same for the bytes at a place
abbrev pub IsUnitAt : List ℕ → ℕ → ℕ → Type 0
IsUnitAt bytes place unit = IsUnitOf (slice_index bytes place) (slice_index bytes (place + 1)) (slice_index bytes (place + 2)) unit

-- The code units are the scalars between two places of a text, if none of them is a surrogate.
pub record ReadsUnits (text : List ℕ) (start : ℕ) (units : List ℕ) (past : ℕ) : Type 0 where
  pub is_text : is_utf8 (drop past text) ≡ true
  pub within : past ≤ length text
  pub front : AreNoSurrogates units → chars (drop start text) ≡ units ++ chars (drop past text)
  pub passed : AreNoSurrogates units → past ≡ start + total_unit_count Utf8 units
