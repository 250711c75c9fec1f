-- The grammar of a line of an index file of the WHATWG Encoding Standard ("Indexes").
use Rattle.std.specs.Prelude.{◌≡◌, ℕ, ◌≤◌, ◌⊎◌, ◌↔◌, Bool, true, false, List, [], ◌∷◌, ◌++◌, length}
use Rattle.std.specs.List.{AllByRecursion}
use Rattle.legacy_index_files.specs.declared.index_line.LineKind.{LineKind}
use Rattle.legacy_index_files.specs.declared.index_line.LineKind.TheVariants.{Skipped, Entry}
use Rattle.legacy_index_files.specs.IndexLine.{is_blank, is_digit, number_after}

-- each byte passes the test
abbrev pub Passes : (ℕ → Bool) → List ℕ → Type 0
Passes test bytes = AllByRecursion (λ b. test b ≡ true) bytes

-- the first byte, if there is one, does not pass the test
abbrev pub EndsRun : (ℕ → Bool) → List ℕ → Type 0
EndsRun test [] = Unit {0}
EndsRun test (b ∷ bs) = test b ≡ false

-- 1 to 6 digits of a radix for the number n
pub record IsNumber (radix : ℕ) (digits : List ℕ) (n : ℕ) : Type 0 where
  pub some : 1 ≤ length digits
  pub few : length digits ≤ 6
  pub are_digits : Passes (is_digit radix) digits
  pub number : n ≡ number_after radix 0 digits

-- at least one blank, `0x`, 1 to 6 hexadecimal digits (the value), then the end or a byte that is no digit, and any
-- bytes
pub record HasValue (bytes : List ℕ) (value : ℕ) : Type 0 where
  pub blanks : List ℕ
  pub digits : List ℕ
  pub after : List ℕ
  pub parts : bytes ≡ blanks ++ (0x30 ∷ 0x78 ∷ (digits ++ after))
  pub some : 1 ≤ length blanks
  pub are_blanks : Passes is_blank blanks
  pub number : IsNumber 16 digits value
  pub ends : EndsRun (is_digit 16) after

-- 1 to 6 decimal digits (the pointer), then a value (`HasValue`)
pub record HasEntry (bytes : List ℕ) (pointer value : ℕ) : Type 0 where
  pub digits : List ℕ
  pub after : List ℕ
  pub parts : bytes ≡ digits ++ after
  pub number : IsNumber 10 digits pointer
  pub has_value : HasValue after value

-- an entry line: any number of blanks, then an entry (`HasEntry`)
pub record IsEntryLine (line : List ℕ) (pointer value : ℕ) : Type 0 where
  pub blanks : List ℕ
  pub after : List ℕ
  pub parts : line ≡ blanks ++ after
  pub are_blanks : Passes is_blank blanks
  pub entry : HasEntry after pointer value

-- no bytes, a single carriage return, or `#` and any bytes
abbrev pub SaysNothing : List ℕ → Type 0
SaysNothing bytes = (bytes ≡ []) ⊎ ((bytes ≡ 0x0D ∷ []) ⊎ ((comment : List ℕ) × (bytes ≡ 0x23 ∷ comment)))

-- a skipped line: any number of blanks, then no bytes, a carriage return, or a comment
pub record IsSkippedLine (line : List ℕ) : Type 0 where
  pub blanks : List ℕ
  pub after : List ℕ
  pub parts : line ≡ blanks ++ after
  pub are_blanks : Passes is_blank blanks
  pub nothing : SaysNothing after

-- the kind of a line by the grammar: a line that is neither skipped nor an entry is malformed
pub record IsOfKind (line : List ℕ) (kind : LineKind) : Type 0 where
  pub skipped : (kind ≡ Skipped) ↔ IsSkippedLine line
  pub entry : (pointer value : ℕ) → (kind ≡ Entry pointer value) ↔ IsEntryLine line pointer value
