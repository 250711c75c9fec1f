use Rattle.std.proofs.Common.{◌-◌, length}
use Rattle.{legacy_base.specs.{Grammar.utf16, States.new_state}, legacy_decoder_engine.specs.ReadAhead.ReadsAhead}
use Rattle.legacy_miscellaneous.proofs.utf16.unit_blocks.Units.read_near_surrogates.Given as goal

abbrev pub invariant-loop-at : goal.invariant-loop-at
invariant-loop-at g l = ReadsAhead g.T.Destination (new_state (utf16 l.self.big_endian)) l.src l.at l.fn.dst l.dst

abbrev pub decreases-loop-at : goal.decreases-loop-at
decreases-loop-at g l = length l.src - l.at
