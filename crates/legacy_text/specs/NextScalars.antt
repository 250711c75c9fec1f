-- The next scalar of a text, by the number of its code units.
use Rattle.std.specs.Prelude.{◌≡◌, ℕ, List, [], ◌∷◌, ◌++◌, drop}
use Rattle.legacy_text.specs.declared.text_cursor.Next.{Next, TheVariants.{End, One, Two, Three, Four}}
use Rattle.legacy_text.specs.EncodingForm.{EncodingForm, Utf8, code_units, unit_count}

-- the scalar c is the first one left, and has n code units
abbrev pub IsFirst : EncodingForm → List ℕ → ℕ → ℕ → Type 0
IsFirst form left c n = (left ≡ c ∷ drop 1 left) × (unit_count form c ≡ n)

-- it is the first scalar left, or the end if none is left
abbrev pub IsNext : EncodingForm → List ℕ → Next → Type 0
IsNext form left End = left ≡ []
IsNext form left (One c) = IsFirst form left c 1
IsNext form left (Two c) = IsFirst form left c 2
IsNext form left (Three c) = IsFirst form left c 3
IsNext form left (Four c) = IsFirst form left c 4

-- the bytes of the scalar c in UTF-8 are at the place, before others
pub record StandsAt (bytes : List ℕ) (place c : ℕ) : Type 0 where
  pub rest : List ℕ
  pub is : drop place bytes ≡ code_units Utf8 c ++ rest
