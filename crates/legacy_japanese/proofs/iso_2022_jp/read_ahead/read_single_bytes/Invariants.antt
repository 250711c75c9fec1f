use Rattle.std.proofs.Common.{◌-◌, length}
use Rattle.legacy_japanese.specs.Iso2022JpAhead.{ReadsModes}
use Rattle.legacy_japanese.proofs.iso_2022_jp.read_ahead.read_single_bytes.Given as goal

abbrev pub invariant-loop-at : goal.invariant-loop-at
invariant-loop-at g l = ReadsModes g.T.Destination l.fn.tables.flat.jis0208 l.fn.mode l.fn.mode l.src l.at l.fn.dst l.dst

abbrev pub decreases-loop-at : goal.decreases-loop-at
decreases-loop-at g l = length l.src - l.at
