-- Scalars that are read several at a time, as UTF-16 code units.
use Rattle.std.specs.Prelude.{◌≡◌, ℕ, ◌+◌, ◌<◌, List, ◌++◌, length, slice_index}
use Rattle.legacy_text.specs.{EncodingForm.{EncodingForm, Utf16, total_unit_count}, UnitCodes.IsNoSurrogate}

-- none of the code units is a surrogate
abbrev pub AreNoSurrogates : List ℕ → Type 0
AreNoSurrogates units = (k : ℕ) → k < length units → IsNoSurrogate (slice_index units k)

-- If none of the code units is a surrogate, they are the next scalars of a text, and the cursor moves past them.
pub record TakesUnits (form : EncodingForm) (left : List ℕ) (passed : ℕ) (units rest : List ℕ) (passed_then : ℕ) : Type 0 where
  pub front : AreNoSurrogates units → left ≡ units ++ rest
  pub passed_is : AreNoSurrogates units → passed_then ≡ passed + total_unit_count form units
  -- in UTF-16 it moves past the same number of code units in any case
  pub all_passed : form ≡ Utf16 → passed_then ≡ passed + length units
