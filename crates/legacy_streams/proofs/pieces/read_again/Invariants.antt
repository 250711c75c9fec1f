use Rattle.std.specs.Io.KnownBytes.{Keeps}
use Rattle.legacy_streams.proofs.pieces.read_again.Given as goal

-- the input is as it was
abbrev pub invariant-reads : goal.invariant-reads
invariant-reads g l = Keeps (g.R.Read.remaining l.fn.input) (g.R.Read.remaining l.input)
