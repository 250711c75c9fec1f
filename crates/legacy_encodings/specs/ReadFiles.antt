-- What the index file of multi-byte encodings gives a registry.
use Rattle.std.specs.Prelude.{◌≡◌, ◌≢◌, ℕ, List, Some, None}
use Rattle.legacy_index_files.specs.declared.index_file.EncoderIndex.TheVariants.{Katakana}
use Rattle.legacy_index_files.specs.declared.index_file.FileIndex.{FileIndex}
use Rattle.legacy_index_files.specs.declared.index_file.FileIndex.TheVariants.{SingleByte}
use Rattle.legacy_index_files.specs.declared.index_file.IndexFileError.TheVariants as reading
use Rattle.legacy_index_files.specs.declared.owned_indexes.OwnedIndexes.{OwnedIndexes}
use Rattle.legacy_index_files.specs.IndexLine.{lines}
use Rattle.legacy_index_files.specs.IndexTable.{first_malformed, malformed_line}
use Rattle.legacy_index_files.specs.OwnedIndexes.{HoldsFile, HoldsKatakana}
use Rattle.legacy_encodings.specs.declared.registry.RegistryError.{RegistryError}
use Rattle.legacy_encodings.specs.declared.registry.RegistryError.TheVariants.{File, WrongKind}

-- the index is one of multi-byte encodings, no line of the text is malformed, and the set has what it says
pub record IsReadFile (index : FileIndex) (text : List ℕ) (before after : OwnedIndexes) : Type 0 where
  pub multi_byte : index ≢ SingleByte
  pub well_formed : first_malformed index 1 (lines text) ≡ None
  pub holds : HoldsFile index text before after

-- the condition of each error for such a file
abbrev pub IsIndexFault : FileIndex → List ℕ → RegistryError → Type 0
IsIndexFault index text WrongKind = index ≡ SingleByte
IsIndexFault index text (File (reading.Line n)) = (index ≢ SingleByte) × (first_malformed index 1 (lines text) ≡ Some n)
IsIndexFault index text (File reading.Memory) = (index ≢ SingleByte) × (first_malformed index 1 (lines text) ≡ None)
IsIndexFault index text _ = ⊥

-- the same for index ISO-2022-JP katakana
pub record IsReadKatakana (text : List ℕ) (before after : OwnedIndexes) : Type 0 where
  pub well_formed : malformed_line Katakana 1 (lines text) ≡ None
  pub holds : HoldsKatakana text before after

abbrev pub IsKatakanaFault : List ℕ → RegistryError → Type 0
IsKatakanaFault text (File (reading.Line n)) = malformed_line Katakana 1 (lines text) ≡ Some n
IsKatakanaFault text (File reading.Memory) = malformed_line Katakana 1 (lines text) ≡ None
IsKatakanaFault text _ = ⊥
