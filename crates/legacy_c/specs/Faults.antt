-- The faults of a caller's indexes, as numbers.
use Rattle.std.specs.Prelude.{◌≡◌, ℕ, length, Option, Some, None, nat_lt, if◌then◌else◌, ◌==◌}
use Rattle.legacy_tables.specs.Indexes.{FlatIndexes}
use Rattle.legacy_tables.specs.TableChecks.{table_fault, single_byte_fault}
use Rattle.legacy_tables.specs.declared.tables.IndexName.{IndexName}
use Rattle.legacy_tables.specs.declared.tables.IndexName.TheVariants as names
use Rattle.legacy_tables.specs.declared.tables.TableError.{TableError}
use Rattle.legacy_tables.specs.declared.tables.TableError.TheVariants.{TooLong, BadEntry, NotEmpty, KatakanaLength, RangeOrder, RangeValue}
use Rattle.legacy_tables.specs.declared.tables.TableError.TheVariants.{PuaOrder, PuaScalar, PuaBytes, PackedOrder, PackedDiffers, BadByteEntry, Repeated}
use Rattle.legacy_c.specs.Lists.{caller_indexes}
use Rattle.legacy_c.specs.declared.index_tables.IndexTables.{IndexTables}
use Rattle.legacy_c.specs.declared.fault.Fault.{Fault}

-- the caller's seven indexes, with the private-use rows of GB18030-2022
abbrev pub indexes_of : IndexTables → FlatIndexes
indexes_of tables =
    caller_indexes tables.big5.now tables.euc_kr.now tables.jis0208.now tables.jis0212.now tables.gb18030.now tables.katakana.now tables.ranges.now

-- a fault as numbers: its kind, the number of its index or 0, and its place or 0
abbrev pub fault : ℕ → ℕ → ℕ → Fault
fault kind index place = record { kind = kind; index = index; place = place }

-- the number of an index
abbrev pub index_number : IndexName → ℕ
index_number names.Big5 = 1
index_number names.EucKr = 2
index_number names.Jis0208 = 3
index_number names.Jis0212 = 4
index_number names.Gb18030 = 5
index_number names.Katakana = 6
index_number names.Ranges = 7

-- the numbers of a fault; a C caller passes no private-use rows and no packed parts
abbrev pub fault_numbers : TableError → Fault
fault_numbers (TooLong name) = fault 1 (index_number name) 0
fault_numbers (BadEntry name place) = fault 2 (index_number name) place
fault_numbers (NotEmpty name place) = fault 3 (index_number name) place
fault_numbers KatakanaLength = fault 4 6 0
fault_numbers (RangeOrder place) = fault 5 7 place
fault_numbers (RangeValue place) = fault 6 7 place
fault_numbers (BadByteEntry place) = fault 7 8 place
fault_numbers (Repeated place) = fault 8 8 place
fault_numbers (PuaOrder place) = fault 11 0 place
fault_numbers (PuaScalar place) = fault 11 0 place
fault_numbers (PuaBytes place) = fault 11 0 place
fault_numbers (PackedOrder part place) = fault 11 0 place
fault_numbers (PackedDiffers part place) = fault 11 0 place

-- the same, or zeros if there is no fault
abbrev pub found_numbers : Option TableError → Fault
found_numbers None = fault 0 0 0
found_numbers (Some error) = fault_numbers error

-- the first fault of the seven indexes; a C caller may pass at most 256 ranges
abbrev pub indexes_fault : IndexTables → Fault
indexes_fault tables = if nat_lt 256 (length tables.ranges.now) then fault 9 7 256 else found_numbers (table_fault (indexes_of tables))

-- the first fault of the index of a single-byte encoding, which has 128 entries
abbrev pub table_fault_numbers : IndexTables → Fault
table_fault_numbers tables =
    if length tables.single_byte.now == 128 then found_numbers (single_byte_fault tables.single_byte.now) else fault 10 8 0

-- the indexes are the same
abbrev pub SameIndexes : IndexTables → IndexTables → Type 0
SameIndexes old new =
    (new.big5 ≡ old.big5) × (new.euc_kr ≡ old.euc_kr) × (new.jis0208 ≡ old.jis0208) × (new.jis0212 ≡ old.jis0212)
    × (new.gb18030 ≡ old.gb18030) × (new.katakana ≡ old.katakana) × (new.ranges ≡ old.ranges) × (new.single_byte ≡ old.single_byte)
