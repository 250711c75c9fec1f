-- The scalars of single bytes, by a list with an entry for each byte.
use Rattle.std.specs.{Prelude.{◌≡◌, ◌≢◌, ◌<◌, ◌≤◌, ℕ, List, All, length, map, get_or}, Char.IsScalar}

-- An ASCII byte has itself as its entry. Any other has a scalar up to U+FFFF, or 0 if it has none.
pub record AreByteScalars (entries : List ℕ) : Type 0 where
  pub count : length entries ≡ 256
  pub ascii : (b : ℕ) → b < 0x80 → get_or entries b 0 ≡ b
  pub scalars : All (λ c. (c < 0x1_0000) × IsScalar c) entries

-- each of these bytes has a scalar
abbrev pub HaveScalars : List ℕ → List ℕ → Type 0
HaveScalars entries bytes = All (λ b. 0x80 ≤ b → get_or entries b 0 ≢ 0) bytes

-- the scalars of these bytes
abbrev pub scalars_of : List ℕ → List ℕ → List ℕ
scalars_of entries bytes = map (λ b. get_or entries b 0) bytes
