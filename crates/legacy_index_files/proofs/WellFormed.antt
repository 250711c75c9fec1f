-- If the reader reports no line, the text has no malformed line.
use Rattle.std.proofs.Common.{◌≡◌, ◌↔◌, ℕ, List, Option, Some, None, Result, Ok, Err, refl}
use Rattle.legacy_index_files.specs.{declared.index_file.EncoderIndex.EncoderIndex, declared.index_file.IndexFileError.IndexFileError}
use Rattle.legacy_index_files.specs.{declared.index_file.IndexFileError.TheVariants.{Line, Memory}, IndexLine.lines, IndexTable.malformed_line}

none_of : (o : Option ℕ) → ((n : ℕ) → o ≡ Some n → ⊥) → o ≡ None
none_of None h = refl
none_of (Some n) h = absurd (h n refl)

module _ {T : Type 0} (name : EncoderIndex) (text : List ℕ) (result : Result T IndexFileError)
    (line : (n : ℕ) → (result ≡ Err (Line n)) ↔ (malformed_line name 1 (lines text) ≡ Some n)) where
  -- this holds if a table was read
  pub well_formed_ok : (table : T) → result ≡ Ok table → malformed_line name 1 (lines text) ≡ None
  well_formed_ok table e = none_of (malformed_line name 1 (lines text)) (λ n h. let is = (line n).1 h in cc)

  -- and if memory was refused
  pub well_formed_memory : result ≡ Err Memory → malformed_line name 1 (lines text) ≡ None
  well_formed_memory e = none_of (malformed_line name 1 (lines text)) (λ n h. let is = (line n).1 h in cc)
