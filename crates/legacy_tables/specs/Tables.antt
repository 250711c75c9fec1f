-- The flat lists of given indexes, and the list of an index by its name.
use Rattle.std.specs.Prelude.{ℕ, List, [], Bool, true, false}
use Rattle.legacy_tables.specs.declared.tables.Indexes.{Indexes}
use Rattle.legacy_tables.specs.declared.tables.IndexName.{IndexName}
use Rattle.legacy_tables.specs.declared.tables.IndexName.TheVariants as names
use Rattle.legacy_tables.specs.Indexes.{FlatIndexes}
use Rattle.legacy_tables.specs.AcceptedTables.{flat_lists}

-- the flat lists of given indexes
abbrev pub flat_indexes : Indexes → FlatIndexes
flat_indexes indexes =
    flat_lists indexes.big5.now indexes.euc_kr.now indexes.jis0208.now indexes.jis0212.now
    indexes.gb18030.now indexes.katakana.now indexes.ranges.now indexes.gb18030_pua.now

-- the index of a name; the ranges have no such list
abbrev pub index_list : FlatIndexes → IndexName → List ℕ
index_list flat names.Big5 = flat.big5
index_list flat names.EucKr = flat.euc_kr
index_list flat names.Jis0208 = flat.jis0208
index_list flat names.Jis0212 = flat.jis0212
index_list flat names.Gb18030 = flat.gb18030
index_list flat names.Katakana = flat.katakana
index_list flat names.Ranges = []

-- true for an index of pairs without scalars past U+FFFF
abbrev pub is_narrow_index : IndexName → Bool
is_narrow_index names.EucKr = true
is_narrow_index names.Jis0208 = true
is_narrow_index names.Jis0212 = true
is_narrow_index names.Gb18030 = true
is_narrow_index _ = false
