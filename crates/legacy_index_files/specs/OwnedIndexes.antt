-- The owning set of indexes: its values for each index, and the flat lists of its tables.
use Rattle.std.specs.Prelude.{◌≡◌, ℕ, List, vec_capacity}
use Rattle.legacy_tables.specs.Indexes.{FlatIndexes}
use Rattle.legacy_tables.specs.AcceptedTables.{flat_lists}
use Rattle.legacy_tables.specs.declared.tables.private_use.TheConstants.{GB18030_2022_PUA}
use Rattle.legacy_index_files.specs.declared.index_file.FileIndex.{FileIndex}
use Rattle.legacy_index_files.specs.declared.index_file.FileIndex.TheVariants.{Big5, EucKr, Jis0208, Jis0212, Gb18030, Ranges, SingleByte}
use Rattle.legacy_index_files.specs.declared.index_file.EncoderIndex.TheVariants.{Katakana}
use Rattle.legacy_index_files.specs.declared.index_file.FileTable.{FileTable}
use Rattle.legacy_index_files.specs.declared.index_file.FileTable.TheVariants as table
use Rattle.legacy_index_files.specs.declared.owned_indexes.OwnedIndexes.{OwnedIndexes}
use Rattle.legacy_index_files.specs.IndexLine.{lines}
use Rattle.legacy_index_files.specs.IndexTable.{entries_of, IsIndexOf, IsSingleByteIndexOf, IsTableOf, file_entries}

-- the entries of an index, if each index has a text
abbrev pub text_entries : (FileIndex → List ℕ) → FileIndex → List (ℕ × ℕ)
text_entries texts name = entries_of name (lines (texts name))

-- the set has the values of each index's text
pub record HoldsTexts (texts : FileIndex → List ℕ) (owned : OwnedIndexes) : Type 0 where
  pub big5 : IsIndexOf (text_entries texts Big5) owned.big5.items
  pub euc_kr : IsIndexOf (text_entries texts EucKr) owned.euc_kr.items
  pub jis0208 : IsIndexOf (text_entries texts Jis0208) owned.jis0208.items
  pub jis0212 : IsIndexOf (text_entries texts Jis0212) owned.jis0212.items
  pub gb18030 : IsIndexOf (text_entries texts Gb18030) owned.gb18030.items
  pub ranges : owned.ranges.items ≡ text_entries texts Ranges
  pub single_byte : IsSingleByteIndexOf (text_entries texts SingleByte) owned.single_byte

-- no index of the set has memory
pub record IsUnallocated (owned : OwnedIndexes) : Type 0 where
  pub big5 : vec_capacity owned.big5 ≡ 0
  pub euc_kr : vec_capacity owned.euc_kr ≡ 0
  pub jis0208 : vec_capacity owned.jis0208 ≡ 0
  pub jis0212 : vec_capacity owned.jis0212 ≡ 0
  pub gb18030 : vec_capacity owned.gb18030 ≡ 0
  pub katakana : vec_capacity owned.katakana ≡ 0
  pub ranges : vec_capacity owned.ranges ≡ 0

-- the set with the table of an index replaced; a table of the wrong kind for the index changes nothing
abbrev pub with_table : OwnedIndexes → FileIndex → FileTable → OwnedIndexes
with_table owned Big5 (table.Wide values) = record owned { big5 = values }
with_table owned EucKr (table.Narrow values) = record owned { euc_kr = values }
with_table owned Jis0208 (table.Narrow values) = record owned { jis0208 = values }
with_table owned Jis0212 (table.Narrow values) = record owned { jis0212 = values }
with_table owned Gb18030 (table.Narrow values) = record owned { gb18030 = values }
with_table owned Ranges (table.Ranges ranges) = record owned { ranges = ranges }
with_table owned SingleByte (table.Bytes values) = record owned { single_byte = values }
with_table owned _ _ = owned

-- the second set is the first one with the values of the text for this index
pub record HoldsFile (name : FileIndex) (text : List ℕ) (before after : OwnedIndexes) : Type 0 where
  pub table : FileTable
  pub is_table : IsTableOf name (entries_of name (lines text)) table
  pub place : after ≡ with_table before name table

-- the second set is the first one with the values of the text for index ISO-2022-JP katakana
pub record HoldsKatakana (text : List ℕ) (before after : OwnedIndexes) : Type 0 where
  pub says : IsIndexOf (file_entries Katakana (lines text)) after.katakana.items
  pub place : after ≡ record before { katakana = after.katakana }

-- the flat lists of the set, with the Standard's private-use rows
abbrev pub owned_lists : OwnedIndexes → FlatIndexes
owned_lists owned =
    flat_lists owned.big5.items owned.euc_kr.items owned.jis0208.items owned.jis0212.items
    owned.gb18030.items owned.katakana.items owned.ranges.items GB18030_2022_PUA
