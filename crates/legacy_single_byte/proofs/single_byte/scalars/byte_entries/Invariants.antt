use Rattle.std.proofs.Common.{◌≡◌, length}
use Rattle.legacy_single_byte.specs.ByteEntries.{AreByteEntries}
use Rattle.legacy_single_byte.proofs.single_byte.scalars.byte_entries.Given as goal

-- the entries of the first bytes are in the list
abbrev pub invariant-loop-byte : goal.invariant-loop-byte
invariant-loop-byte l = (length l.entries ≡ 256) × AreByteEntries l.table.entries l.entries l.byte
