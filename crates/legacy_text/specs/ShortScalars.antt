-- Scalars of one and two bytes of UTF-8 that were written as one byte each.
use Rattle.std.specs.{Prelude.{◌≡◌, ℕ, ◌+◌, ◌≤◌, List, ◌∷◌, length, take, drop, true}, Str.{chars, is_utf8}}
use Rattle.legacy_text.specs.{EncodingForm.{Utf8, unit_count, total_unit_count}, UnitCodes.WritesCodes}

-- The scalar at a place of a text, and the place after it.
pub record ReadsScalar (text : List ℕ) (place scalar past : ℕ) : Type 0 where
  pub left : chars (drop place text) ≡ scalar ∷ chars (drop past text)
  pub is_text : is_utf8 (drop past text) ≡ true
  pub within : past ≤ length text
  pub passed : past ≡ place + unit_count Utf8 scalar

-- The first n scalars between two places of a text were written after the old bytes. Each was written as a byte that it
-- may have.
pub record WritesScalars (gives : ℕ → ℕ → Type 0) (text : List ℕ) (start n past : ℕ) (old new : List ℕ) : Type 0 where
  pub few : n ≤ length (chars (drop start text))
  pub left : chars (drop past text) ≡ drop n (chars (drop start text))
  pub is_text : is_utf8 (drop past text) ≡ true
  pub within : past ≤ length text
  pub passed : past ≡ start + total_unit_count Utf8 (take n (chars (drop start text)))
  pub writes : WritesCodes gives (chars (drop start text)) n old new
