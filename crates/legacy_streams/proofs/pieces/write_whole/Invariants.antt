use Rattle.std.proofs.Common.{◌≤◌, length, take}
use Rattle.std.specs.Io.KnownBytes.{Appends}
use Rattle.legacy_streams.proofs.pieces.write_whole.Given as goal

abbrev pub invariant-writes : goal.invariant-writes
invariant-writes g l =
    record { within : l.written ≤ length l.bytes; sent : Appends (g.W.Write.contents l.fn.output) (g.W.Write.contents l.output) (take l.written l.bytes) }
