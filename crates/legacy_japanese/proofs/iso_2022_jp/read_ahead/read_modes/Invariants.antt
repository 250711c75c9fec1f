use Rattle.std.proofs.Common.{◌-◌, length}
use Rattle.legacy_japanese.specs.Iso2022JpAhead.{ReadsModes}
use Rattle.legacy_japanese.proofs.iso_2022_jp.read_ahead.read_modes.Given as goal

-- what was read was written, and the mode is that of the last text
abbrev pub invariant-loop-escape : goal.invariant-loop-escape
invariant-loop-escape g l = ReadsModes g.T.Destination l.tables.flat.jis0208 l.fn.first l.mode l.src l.at l.fn.dst l.dst

abbrev pub decreases-loop-escape : goal.decreases-loop-escape
decreases-loop-escape g l = length l.src - l.at
