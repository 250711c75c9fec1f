-- What is known of an index or a single-byte table that was read of a file.
use Rattle.std.proofs.Common.{◌≡◌, ◌≢◌, ◌↔◌, ℕ, List, Some, Result, Ok, Err}
use Rattle.legacy_index_files.specs.{declared.index_file.FileIndex.TheVariants.SingleByte, declared.index_file.EncoderIndex.TheVariants.{Of, Katakana}, declared.index_file.FileIndex.FileIndex}
use Rattle.legacy_index_files.specs.{declared.index_file.IndexFileError.IndexFileError, declared.index_file.IndexFileError.TheVariants.{Line, Memory}}
use Rattle.legacy_index_files.specs.{declared.index_file.FileTable.FileTable, declared.index_file.FileTable.TheVariants.{Wide, Narrow, Ranges, Bytes}}
use Rattle.legacy_index_files.specs.{declared.owned_indexes.OwnedIndexes.OwnedIndexes, IndexLine.lines, IndexTable.{entries_of, first_malformed, malformed_line, IsTableOf}}
use Rattle.legacy_index_files.specs.{IndexTable.IsSingleByteIndexOf, OwnedIndexes.{HoldsFile, with_table}}
use Rattle.legacy_index_files.proofs.WellFormed.{well_formed_ok, well_formed_memory}
use Rattle.legacy_encodings.specs.{declared.registry.RegistryError.TheVariants.File, SingleByteFiles.{IsSingleByteFile, IsSingleByteFault}}
use Rattle.legacy_encodings.specs.ReadFiles.{IsIndexFault, IsKatakanaFault}

-- the set has what the file of the single-byte index says
read_values : (text : List ℕ) (before after : OwnedIndexes) → HoldsFile SingleByte text before after →
    IsSingleByteIndexOf (entries_of SingleByte (lines text)) after.single_byte
read_values text before after read = go read.table read.is_table read.place
  where
    go : (table : FileTable) → IsTableOf SingleByte (entries_of SingleByte (lines text)) table → after ≡ with_table before SingleByte table →
        IsSingleByteIndexOf (entries_of SingleByte (lines text)) after.single_byte
    go (Wide values) is place = absurd is
    go (Narrow values) is place = absurd is
    go (Ranges ranges) is place = absurd is
    go (Bytes values) is place = rw place is

module _ {T : Type 0} (text : List ℕ) (result : Result T IndexFileError)
    (line : (n : ℕ) → (result ≡ Err (Line n)) ↔ (first_malformed SingleByte 1 (lines text) ≡ Some n)) where
  -- the file that was read
  pub single_byte_file : (before after : OwnedIndexes) → HoldsFile SingleByte text before after → (x : T) → result ≡ Ok x
      → IsSingleByteFile text after.single_byte
  single_byte_file before after read x e = record {
    well_formed = well_formed_ok (Of SingleByte) text result line x e;
    says = read_values text before after read;
  }

  -- and why it was not
  pub single_byte_fault_of : result ≢ Err Memory → (error : IndexFileError) → result ≡ Err error → IsSingleByteFault text (File error)
  single_byte_fault_of never (Line n) e = (line n).0 e
  single_byte_fault_of never Memory e = absurd (never e)

-- why the file of another index was not read
pub index_fault_of : {T : Type 0} (index : FileIndex) (text : List ℕ) (result : Result T IndexFileError) →
    ((n : ℕ) → (result ≡ Err (Line n)) ↔ (first_malformed index 1 (lines text) ≡ Some n)) → index ≢ SingleByte → (error : IndexFileError) →
    result ≡ Err error → IsIndexFault index text (File error)
index_fault_of index text result line multi_byte (Line n) e = (multi_byte, (line n).0 e)
index_fault_of index text result line multi_byte Memory e = (multi_byte, well_formed_memory (Of index) text result line e)

pub katakana_fault_of : {T : Type 0} (text : List ℕ) (result : Result T IndexFileError) →
    ((n : ℕ) → (result ≡ Err (Line n)) ↔ (malformed_line Katakana 1 (lines text) ≡ Some n)) → (error : IndexFileError) →
    result ≡ Err error → IsKatakanaFault text (File error)
katakana_fault_of text result line (Line n) e = (line n).0 e
katakana_fault_of text result line Memory e = well_formed_memory Katakana text result line e
