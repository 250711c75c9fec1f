-- What index files say of an input.
use Rattle.std.specs.Prelude.{◌≡◌, ◌≢◌, ℕ, List, [], length, Some, None}
use Rattle.legacy_base.specs.Grammar.{single_byte}
use Rattle.legacy_base.specs.EucKr.{euc_kr}
use Rattle.legacy_base.specs.States.{new_state}
use Rattle.legacy_base.specs.Lengths.{query_answer, to_utf8}
use Rattle.legacy_tables.specs.Indexes.{FlatIndexes}
use Rattle.legacy_tables.specs.AcceptedTables.{flat_lists}
use Rattle.legacy_tables.specs.TableChecks.{table_fault, AreAccepted, IsAcceptedTable}
use Rattle.legacy_tables.specs.declared.tables.private_use.TheConstants.{GB18030_2022_PUA}
use Rattle.legacy_index_files.specs.declared.index_file.FileIndex.TheVariants.{EucKr}
use Rattle.legacy_index_files.specs.declared.index_file.IndexFileError.TheVariants as reading
use Rattle.legacy_index_files.specs.IndexLine.{lines}
use Rattle.legacy_index_files.specs.IndexTable.{entries_of, first_malformed, IsIndexOf}
use Rattle.legacy_encodings.specs.declared.registry.RegistryError.{RegistryError}
use Rattle.legacy_encodings.specs.declared.registry.RegistryError.TheVariants.{File, Tables, Sized}
use Rattle.legacy_codecs.specs.declared.whole.SizedError.TheVariants as sized
use Rattle.legacy_encodings.specs.SingleByteFiles.{IsSingleByteFile, IsSingleByteFault}
use Rattle.legacy_codecs.specs.WholeTexts.{text_of}

-- ---- the file of index EUC-KR

-- no line of the file is malformed
abbrev pub IsWellFormedEucKr : List ℕ → Type 0
IsWellFormedEucKr file = first_malformed EucKr 1 (lines file) ≡ None

-- no line of the file is malformed, and its lines say this index
pub record IsEucKrFile (file index : List ℕ) : Type 0 where
  pub well_formed : IsWellFormedEucKr file
  pub says : IsIndexOf (entries_of EucKr (lines file)) index

-- the lists of indexes of which only index EUC-KR was read
abbrev pub only_euc_kr : List ℕ → FlatIndexes
only_euc_kr index = flat_lists [] index [] [] [] [] [] GB18030_2022_PUA

-- the file says this index, which passed the check
pub record IsEucKrIndex (file index : List ℕ) : Type 0 where
  pub of_file : IsEucKrFile file index
  pub accepted : AreAccepted (only_euc_kr index)

-- the characters of an input in EUC-KR, by the index that a file says
pub record IsTextByFile (file input text : List ℕ) : Type 0 where
  pub index : List ℕ
  pub is_index : IsEucKrIndex file index
  pub short : query_answer to_utf8 (new_state (euc_kr index)) (length input) ≢ None
  pub decodes : text ≡ text_of (new_state (euc_kr index)) input

-- the length query of a new decoder of EUC-KR, by the index of a file, returns `None` for the input
pub record IsTooLongByFile (file input : List ℕ) : Type 0 where
  pub index : List ℕ
  pub is_index : IsEucKrIndex file index
  pub too_long : query_answer to_utf8 (new_state (euc_kr index)) (length input) ≡ None

-- The condition of each error for the file and the input. Any two exclude each other, except a failed allocation, which
-- is possible if the steps before it succeeded.
abbrev pub IsFaultByFile : List ℕ → List ℕ → RegistryError → Type 0
IsFaultByFile file input (File (reading.Line n)) = first_malformed EucKr 1 (lines file) ≡ Some n
IsFaultByFile file input (File reading.Memory) = IsWellFormedEucKr file
IsFaultByFile file input (Tables fault) = (index : List ℕ) × IsEucKrFile file index × (table_fault (only_euc_kr index) ≡ Some fault)
IsFaultByFile file input (Sized sized.TooLong) = IsTooLongByFile file input
IsFaultByFile file input (Sized sized.Memory) =
    (index : List ℕ) × IsEucKrIndex file index × (query_answer to_utf8 (new_state (euc_kr index)) (length input) ≢ None)
IsFaultByFile file input _ = ⊥

-- ---- the file of a single-byte encoding

-- the characters of an input in a single-byte encoding, by the table that a file says, which passed the check
pub record IsTextBySingleByteFile (file input text : List ℕ) : Type 0 where
  pub entries : List ℕ
  pub of_file : IsSingleByteFile file entries
  pub accepted : IsAcceptedTable entries
  pub short : query_answer to_utf8 (new_state (single_byte entries)) (length input) ≢ None
  pub decodes : text ≡ text_of (new_state (single_byte entries)) input

-- the length query of a new decoder of a single-byte encoding, by the table that a file says, returns `None` for the input
pub record IsTooLongBySingleByteFile (file input : List ℕ) : Type 0 where
  pub entries : List ℕ
  pub of_file : IsSingleByteFile file entries
  pub accepted : IsAcceptedTable entries
  pub too_long : query_answer to_utf8 (new_state (single_byte entries)) (length input) ≡ None

-- The condition of each error for the file and the input, as in `IsFaultByFile`.
abbrev pub IsFaultBySingleByteFile : List ℕ → List ℕ → RegistryError → Type 0
IsFaultBySingleByteFile file input (Sized sized.TooLong) = IsTooLongBySingleByteFile file input
IsFaultBySingleByteFile file input error = IsSingleByteFault file error
