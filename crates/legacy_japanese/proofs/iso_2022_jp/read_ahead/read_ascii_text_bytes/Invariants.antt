use Rattle.std.proofs.Common.{◌-◌}
use Rattle.{legacy_base.specs.declared.modes.DecoderMode.TheVariants.Ascii, legacy_japanese.specs.Iso2022JpAhead.ReadsModes}
use Rattle.legacy_japanese.proofs.iso_2022_jp.read_ahead.read_ascii_text_bytes.Given as goal

abbrev pub invariant-loop-at : goal.invariant-loop-at
invariant-loop-at g l = ReadsModes g.T.Destination l.fn.tables.flat.jis0208 Ascii Ascii l.src l.at l.fn.dst l.dst

abbrev pub decreases-loop-at : goal.decreases-loop-at
decreases-loop-at g l = l.most - l.at
