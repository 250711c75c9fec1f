-- The forms of a block of bytes, picked out by the places where they start.
use Rattle.std.specs.Prelude.{◌≡◌, ℕ, zero, suc, ◌+◌, ◌-◌, ◌*◌, ◌/◌, ◌%◌, ◌<◌, List, [], ◌∷◌, ◌++◌, ◌==◌, cond, ltb, min, take, replicate, get_or, flat_map}
use Rattle.std.specs.Int.{bit_at}

-- the places of the bits that are set among the first n, from `base` on
unfoldable pub places : ℕ → ℕ → ℕ → List ℕ
places base zero bits = []
places base (suc n) bits = cond (bits % 2 == 1) (base ∷ places (base + 1) n (bits / 2)) (places (base + 1) n (bits / 2))

-- each place and the one after it
abbrev pub pairs : List ℕ → List ℕ
pairs [] = []
pairs (p ∷ ps) = p ∷ (p + 1) ∷ pairs ps

-- a row of the table: the places, filled up to eight with place 0, each with the one after it
unfoldable pub row : ℕ → List ℕ
row bits = pairs (take 8 (places 0 8 bits ++ replicate 8 0))

-- the code of two bytes at a place, the first byte low
abbrev pub code_at : List ℕ → ℕ → ℕ
code_at bytes p = get_or bytes p 0 + 256 * get_or bytes (p + 1) 0

-- the bytes of the form that a code begins with: an ASCII byte alone, and any other byte with the one after it
abbrev pub form_of : ℕ → List ℕ
form_of code = cond (ltb (code % 256) 128) (code % 256 ∷ []) (code % 256 ∷ code / 256 ∷ [])

-- one form after another
abbrev pub forms_of : List ℕ → List ℕ
forms_of codes = flat_map form_of codes

-- A form starts at the first byte, and at every other byte except after a byte past ASCII that starts a form.
pub record AreStarts (past starts : ℕ) : Type 0 where
  pub first : bit_at starts 0 ≡ 1
  pub next : (i : ℕ) → i < 63 → (bit_at starts (suc i) + min (bit_at starts i) (bit_at past i)) % 2 ≡ 1

-- no form of two bytes starts at the last of the first n bytes
abbrev pub IsEnd : ℕ → ℕ → ℕ → Type 0
IsEnd past starts n = 0 < n → min (bit_at starts (n - 1)) (bit_at past (n - 1)) ≡ 0
