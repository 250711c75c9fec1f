-- What the index file of a single-byte encoding says.
use Rattle.std.specs.Prelude.{◌≡◌, ◌≢◌, ℕ, List, Some, None}
use Rattle.legacy_tables.specs.TableChecks.{single_byte_fault, IsAcceptedTable}
use Rattle.legacy_index_files.specs.declared.codec.Codec.TheVariants as codec
use Rattle.legacy_index_files.specs.declared.encodings.Encoding.{Encoding}
use Rattle.legacy_index_files.specs.declared.index_file.FileIndex.TheVariants.{SingleByte}
use Rattle.legacy_index_files.specs.Encodings.{codec_of}
use Rattle.legacy_index_files.specs.declared.index_file.IndexFileError.TheVariants as reading
use Rattle.legacy_index_files.specs.IndexLine.{lines}
use Rattle.legacy_index_files.specs.IndexTable.{entries_of, first_malformed, IsSingleByteIndexOf}
use Rattle.legacy_encodings.specs.declared.registry.RegistryError.{RegistryError}
use Rattle.legacy_encodings.specs.declared.registry.RegistryError.TheVariants.{File, Tables, Sized, WrongKind}
use Rattle.legacy_codecs.specs.declared.whole.SizedError.TheVariants as sized

-- no line of the file is malformed, and its lines say these entries
pub record IsSingleByteFile (file entries : List ℕ) : Type 0 where
  pub well_formed : first_malformed SingleByte 1 (lines file) ≡ None
  pub says : IsSingleByteIndexOf (entries_of SingleByte (lines file)) entries

-- The condition of each error for such a file. Any two exclude each other. Only the list of tables is allocated, after
-- the file was read and its table passed the check.
abbrev pub IsSingleByteFault : List ℕ → RegistryError → Type 0
IsSingleByteFault file (File (reading.Line n)) = first_malformed SingleByte 1 (lines file) ≡ Some n
IsSingleByteFault file (File reading.Memory) = ⊥
IsSingleByteFault file (Tables fault) = (entries : List ℕ) × IsSingleByteFile file entries × (single_byte_fault entries ≡ Some fault)
IsSingleByteFault file (Sized sized.Memory) = (entries : List ℕ) × IsSingleByteFile file entries × IsAcceptedTable entries
IsSingleByteFault file _ = ⊥

-- the same if the file is that of an encoding, which has to be a single-byte encoding
abbrev pub IsTableFault : Encoding → List ℕ → RegistryError → Type 0
IsTableFault encoding file WrongKind = codec_of encoding ≢ codec.SingleByte
IsTableFault encoding file error = (codec_of encoding ≡ codec.SingleByte) × IsSingleByteFault file error
