-- Bytes that are written for UTF-16 code units, one for each.
use Rattle.std.specs.Prelude.{◌≡◌, ℕ, ◌<◌, ◌≤◌, List, ◌++◌, length, slice_index}

-- a code unit that is not a surrogate
abbrev pub IsNoSurrogate : ℕ → Type 0
IsNoSurrogate unit = 0xD800 ≤ unit → 0xE000 ≤ unit

-- After the old bytes there is one new byte for each of the first n scalars, which it may have.
pub record WritesCodes (gives : ℕ → ℕ → Type 0) (scalars : List ℕ) (n : ℕ) (old new : List ℕ) : Type 0 where
  pub bytes : List ℕ
  pub new_is : new ≡ old ++ bytes
  pub count : length bytes ≡ n
  pub each : (k : ℕ) → k < n → gives (slice_index scalars k) (slice_index bytes k)
