use Rattle.{std.proofs.Common.{◌-◌, length}, legacy_base.specs.{Grammar.user_defined, States.new_state}, legacy_decoder_engine.specs.ReadAhead.ReadsAhead}
use Rattle.legacy_miscellaneous.proofs.user_defined.blocks.read_eights.Given as goal

-- the bytes before this place are read
abbrev pub invariant-loop-at : goal.invariant-loop-at
invariant-loop-at g l = ReadsAhead g.T.Destination (new_state user_defined) l.src l.at l.fn.dst l.dst

abbrev pub decreases-loop-at : goal.decreases-loop-at
decreases-loop-at g l = length l.src - l.at
