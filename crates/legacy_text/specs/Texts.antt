-- The scalars of a text that is passed to an encoder. Those of UTF-8 are std's `chars`.
use Rattle.std.specs.Prelude.{◌≡◌, ℕ, ◌-◌, ◌<◌, ◌≤◌, List, length, slice_index, false, ◌&&◌}
use Rattle.std.specs.Char.Utf16.{utf16_lossy_chars, is_high_surrogate, is_low_surrogate}

-- "convert a string into a scalar value string" (Infra Standard): the scalars of UTF-16 code units, with U+FFFD for each
-- unpaired surrogate
abbrev pub unit_scalars : List ℕ → List ℕ
unit_scalars units = utf16_lossy_chars units

-- the place does not split a surrogate pair
abbrev pub IsUnitBoundary : List ℕ → ℕ → Type 0
IsUnitBoundary units place =
    (place ≤ length units)
    × (0 < place → (is_high_surrogate (slice_index units (place - 1)) && is_low_surrogate (slice_index units place)) ≡ false)
