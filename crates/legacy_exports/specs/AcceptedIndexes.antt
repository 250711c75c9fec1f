-- Which indexes of a caller are accepted.
use Rattle.std.specs.Prelude.{◌≡◌, ◌≤◌, ℕ, List, Bool, length, map, None, true, false}
use Rattle.legacy_tables.specs.Indexes.{FlatIndexes}
use Rattle.legacy_tables.specs.AcceptedTables.{flat_lists}
use Rattle.legacy_tables.specs.declared.tables.packed.Packed.{Packed}
use Rattle.legacy_tables.specs.declared.tables.private_use.TheConstants.{GB18030_2022_PUA}
use Rattle.legacy_tables.specs.Packed.{packed_fault, ArePackedTables}
use Rattle.legacy_tables.specs.TableChecks.{AreAccepted, IsAcceptedTable}
use Rattle.legacy_index_files.specs.declared.codec.Codec.{Codec}
use Rattle.legacy_index_files.specs.declared.codec.Codec.TheVariants.{SingleByte}
use Rattle.legacy_index_files.specs.Encodings.{has_encoder}
use Rattle.legacy_exports.specs.Numbers.{number_of}
use Rattle.legacy_exports.specs.declared.indexes.IndexRange.{IndexRange}
use Rattle.legacy_exports.specs.declared.indexes.IndexSlices.{IndexSlices}

-- a range as a pair
abbrev pub range_pair : IndexRange → ℕ × ℕ
range_pair range = (range.pointer, range.scalar)

-- the caller's indexes of pointers, with these pairs as ranges and the private-use rows of GB18030-2022
abbrev pub indexes_with : IndexSlices → List (ℕ × ℕ) → FlatIndexes
indexes_with slices ranges =
    flat_lists slices.big5.now slices.euc_kr.now slices.jis0208.now slices.jis0212.now slices.gb18030.now slices.katakana.now ranges
    GB18030_2022_PUA

-- flat indexes are accepted, with the runs and orders if the tables are to be packed
abbrev pub AreTakenParts : Bool → FlatIndexes → Packed → Type 0
AreTakenParts false flat packed = AreAccepted flat
AreTakenParts true flat packed = packed_fault flat packed ≡ None

-- the caller's indexes are accepted with these pairs as ranges
abbrev pub AreTakenIndexes : IndexSlices → List (ℕ × ℕ) → Type 0
AreTakenIndexes slices ranges = AreTakenParts slices.is_packed (indexes_with slices ranges) slices.packed

-- tables have the flat indexes, or what the runs and orders give
abbrev pub AreTablesOfParts : Bool → FlatIndexes → Packed → FlatIndexes → Type 0
AreTablesOfParts false flat packed lists = lists ≡ flat
AreTablesOfParts true flat packed lists = ArePackedTables flat packed lists

-- tables have the caller's indexes with these pairs as ranges
abbrev pub AreTablesOfSlices : IndexSlices → List (ℕ × ℕ) → FlatIndexes → Type 0
AreTablesOfSlices slices ranges lists = AreTablesOfParts slices.is_packed (indexes_with slices ranges) slices.packed lists

-- the index of a single-byte encoding is accepted
abbrev pub IsTakenTable : List ℕ → Type 0
IsTakenTable entries = (length entries ≡ 128) × IsAcceptedTable entries

-- the indexes are accepted, with that of a single-byte encoding if the codec is one
abbrev pub AreTakenLists : Codec → IndexSlices → Type 0
AreTakenLists codec slices =
    AreTakenIndexes slices (map range_pair slices.ranges.now) × (codec ≡ SingleByte → IsTakenTable slices.single_byte.now)

-- the same, and there are not too many ranges
abbrev pub AreTaken : Codec → IndexSlices → Type 0
AreTaken codec slices = (length slices.ranges.now ≤ 256) × AreTakenLists codec slices

-- the codec has an encoder, and the indexes are accepted for it
abbrev pub AreTakenToEncode : Codec → IndexSlices → Type 0
AreTakenToEncode codec slices = AreTaken codec slices × (has_encoder codec ≡ true)

-- a codec with an encoder has the number, and the indexes are accepted for it
abbrev pub IsTakenToEncode : ℕ → IndexSlices → Type 0
IsTakenToEncode number slices = (codec : Codec) × (number_of codec ≡ number) × AreTakenToEncode codec slices

-- no codec with an encoder has the number, or the indexes are not accepted for it
abbrev pub IsRefusedToEncode : ℕ → IndexSlices → Type 0
IsRefusedToEncode number slices = IsTakenToEncode number slices → ⊥

-- a codec has the number, and the indexes are accepted for it
abbrev pub IsTaken : ℕ → IndexSlices → Type 0
IsTaken number slices = (codec : Codec) × (number_of codec ≡ number) × AreTaken codec slices

-- no codec has the number, or the indexes are not accepted for it
abbrev pub IsRefused : ℕ → IndexSlices → Type 0
IsRefused number slices = IsTaken number slices → ⊥
