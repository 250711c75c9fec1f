use Rattle.std.proofs.Common.{◌-◌, length}
use Rattle.legacy_encoder_engine.specs.UnfinishedCall.{EncodesBy}
use Rattle.legacy_japanese.specs.Iso2022JpEncoder.{state_in}
use Rattle.legacy_base.specs.declared.modes.EncoderMode.TheVariants.{Ascii}
use Rattle.legacy_japanese.proofs.iso_2022_jp.encoder.EncoderByTablePairsAheadCodes.read_blocks.Given as goal

-- what was read was written
abbrev pub invariant-loop-dst : goal.invariant-loop-dst
invariant-loop-dst g l = EncodesBy g.S.TextCursor (state_in l.self.pairs.tables.now.flat Ascii) l.fn.src l.fn.dst l.start l.src l.dst l.at

abbrev pub decreases-loop-dst : goal.decreases-loop-dst
decreases-loop-dst g l = length l.dst - l.at
