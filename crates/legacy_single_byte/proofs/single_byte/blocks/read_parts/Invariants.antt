use Rattle.std.proofs.Common.{◌-◌, ◌≤◌}
use Rattle.{legacy_base.specs.States.new_state, legacy_decoder_engine.specs.ReadAhead.ReadsAhead}
use Rattle.legacy_single_byte.proofs.single_byte.blocks.read_parts.Given as goal

-- what was read was written
abbrev pub invariant-loop-at : goal.invariant-loop-at
invariant-loop-at g l = (l.at ≤ l.most) × ReadsAhead g.T.Destination (new_state (g.P.Parts.grammar l.parts)) l.src l.at l.fn.dst l.dst

abbrev pub decreases-loop-at : goal.decreases-loop-at
decreases-loop-at g l = l.most - l.at
