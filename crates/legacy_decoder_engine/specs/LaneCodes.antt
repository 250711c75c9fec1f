-- Eight codes looked up at once: what is kept of each, the place where its entry is looked up, and its unit.
use Rattle.std.specs.Prelude.{◌≡◌, ◌≢◌, ℕ, List, [], ◌∷◌, ◌+◌, ◌*◌, ◌<◌, ◌≤◌, ◌/◌, ◌%◌, cond, ltb, map, min, length, get_or, take, count_by}
use Rattle.std.specs.Char.{IsScalar}
use Rattle.{legacy_base.specs.Grammar.Grammar, legacy_text.specs.declared.destination.Destination.Ghosts}
use Rattle.legacy_decoder_engine.specs.{ReadAhead.IsPair, ReadAhead.Yields, ReadAhead.Writes, PickedForms.{form_of, forms_of}}

-- the places of the codes, up to a limit: no two places from it on are told apart
abbrev pub ArePlaces : ℕ → (ℕ → ℕ) → List ℕ → List ℕ → Type 0
ArePlaces limit place codes found = map (λ p. min p limit) found ≡ map (λ code. min (place code) limit) codes

-- what is kept if it is ASCII, and otherwise the entry
abbrev pub unit_at : ℕ → ℕ → ℕ
unit_at kept entry = cond (ltb kept 128) kept entry

-- an entry from U+0001 to U+FFFF is the scalar of each code with its pointer whose first byte is past ASCII
abbrev pub ArePairs : Grammar → List ℕ → (ℕ → ℕ) → Type 0
ArePairs grammar entries pointer = (code : ℕ) → code < 0x1_0000 → 0x80 ≤ code % 0x100 → pointer code < length entries →
    get_or entries (pointer code) 0 < 0x1_0000 → get_or entries (pointer code) 0 ≢ 0 →
    IsScalar (get_or entries (pointer code) 0) × IsPair grammar (code % 0x100) (code / 0x100) (get_or entries (pointer code) 0)

-- What is kept of a code of two bytes is its first byte or 0. If it is past ASCII, the place is the code's pointer.
pub record IsLane (pointer : ℕ → ℕ) (code kept place : ℕ) : Type 0 where
  pub small : code < 0x1_0000
  pub first : kept ≢ 0 → kept ≡ code % 256
  pub place_is : 128 ≤ kept → place ≡ pointer code

-- what is kept of the first n codes, and the places of their entries, which are at most `last`
abbrev pub AreLanes : (ℕ → ℕ) → ℕ → ℕ → List ℕ → List ℕ → List ℕ → Type 0
AreLanes pointer last n codes kept places = (k : ℕ) → k < n →
    IsLane pointer (get_or codes k 0) (get_or kept k 0) (get_or places k 0) × (get_or places k 0 ≤ last)

-- A unit is the scalar of the form that a code begins with. What is kept of the code gives the form's length.
pub record IsForm (grammar : Grammar) (code kept unit : ℕ) : Type 0 where
  pub scalar : IsScalar unit
  pub yields : Yields grammar (form_of code) (unit ∷ [])
  pub counted : length (form_of code) + cond (ltb kept 128) 1 0 ≡ 2

-- A unit that is not 0 is the scalar of the form that a code begins with, whatever code the lane is kept of.
abbrev pub AreForms : Grammar → (ℕ → ℕ) → List ℕ → List ℕ → List ℕ → Type 0
AreForms grammar pointer kept places units = (code k : ℕ) → k < 8 → IsLane pointer code (get_or kept k 0) (get_or places k 0) → get_or units k 0 ≢ 0 →
    IsForm grammar code (get_or kept k 0) (get_or units k 0)

-- how many of what is kept are ASCII bytes
abbrev pub ascii_count : List ℕ → ℕ
ascii_count kept = count_by (λ k. ltb k 128) kept

-- The forms of the first n codes are written. What is kept of the codes gives the forms' length.
pub record AreWritten {D : Type 0} (T : Ghosts D) (grammar : Grammar) (codes kept : List ℕ) (n : ℕ) (x y : D) : Type 0 where
  pub writes : Writes T grammar (forms_of (take n codes)) x y
  pub counted : length (forms_of (take n codes)) + ascii_count (take n kept) ≡ 2 * n
