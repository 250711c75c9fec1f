-- Tables in either form, flat or packed, as flat lists.
use Rattle.legacy_tables.specs.declared.tables.KeptTables.{KeptTables}
use Rattle.legacy_tables.specs.declared.tables.KeptTables.TheVariants.{Flat, Packed}
use Rattle.legacy_tables.specs.AcceptedTables.{AcceptedIndexes}

-- the flat lists of tables
abbrev pub kept_indexes : KeptTables → AcceptedIndexes
kept_indexes (Flat tables) = tables
kept_indexes (Packed tables) = tables
