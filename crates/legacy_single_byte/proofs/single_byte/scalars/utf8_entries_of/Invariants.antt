use Rattle.std.proofs.Common.{◌≡◌, length}
use Rattle.legacy_single_byte.specs.ByteEntries.{AreUtf8Entries}
use Rattle.legacy_single_byte.proofs.single_byte.scalars.utf8_entries_of.Given as goal

-- the entries of the first places are in the list
abbrev pub invariant-loop-place : goal.invariant-loop-place
invariant-loop-place l = (length l.entries ≡ 128) × AreUtf8Entries l.table.entries l.entries l.place
