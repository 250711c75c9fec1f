-- The indexes of a C caller.
use Rattle.std.specs.Prelude.{◌≡◌, ◌≤◌, ℕ, List, length, map}
use Rattle.legacy_tables.specs.Indexes.{FlatIndexes}
use Rattle.legacy_tables.specs.AcceptedTables.{flat_lists}
use Rattle.legacy_tables.specs.TableChecks.{AreAccepted, IsAcceptedTable}
use Rattle.legacy_tables.specs.declared.tables.private_use.TheConstants.{GB18030_2022_PUA}
use Rattle.legacy_c.specs.declared.index_range.IndexRange.{IndexRange}

-- a range as a pair
abbrev pub range_pair : IndexRange → ℕ × ℕ
range_pair range = (range.pointer, range.scalar)

-- the seven indexes, with the private-use rows of GB18030-2022
abbrev pub caller_indexes : List ℕ → List ℕ → List ℕ → List ℕ → List ℕ → List ℕ → List IndexRange → FlatIndexes
caller_indexes big5 euc_kr jis0208 jis0212 gb18030 katakana ranges =
    flat_lists big5 euc_kr jis0208 jis0212 gb18030 katakana (map range_pair ranges) GB18030_2022_PUA

-- the seven indexes passed their check
abbrev pub AreChecked : List ℕ → List ℕ → List ℕ → List ℕ → List ℕ → List ℕ → List IndexRange → Type 0
AreChecked big5 euc_kr jis0208 jis0212 gb18030 katakana ranges =
    (length ranges ≤ 256) × AreAccepted (caller_indexes big5 euc_kr jis0208 jis0212 gb18030 katakana ranges)

-- the index of a single-byte encoding passed its check
abbrev pub IsCheckedTable : List ℕ → Type 0
IsCheckedTable entries = (length entries ≡ 128) × IsAcceptedTable entries
