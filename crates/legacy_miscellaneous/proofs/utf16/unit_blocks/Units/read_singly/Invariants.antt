use Rattle.{legacy_base.specs.{Grammar.utf16, States.new_state}, legacy_decoder_engine.specs.ReadAhead.ReadsAhead}
use Rattle.legacy_miscellaneous.proofs.utf16.unit_blocks.Units.read_singly.Given as goal

abbrev pub invariant-loop-left : goal.invariant-loop-left
invariant-loop-left g l = ReadsAhead g.T.Destination (new_state (utf16 l.self.big_endian)) l.src l.at l.fn.dst l.dst

abbrev pub decreases-loop-left : goal.decreases-loop-left
decreases-loop-left g l = l.left
