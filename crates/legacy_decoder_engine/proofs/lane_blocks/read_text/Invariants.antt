use Rattle.std.proofs.Common.{◌-◌, length}
use Rattle.{legacy_base.specs.States.new_state, legacy_decoder_engine.specs.ReadAhead.ReadsAhead}
use Rattle.legacy_decoder_engine.proofs.lane_blocks.read_text.Given as goal

abbrev pub invariant-loop-at : goal.invariant-loop-at
invariant-loop-at g l = ReadsAhead g.T.Destination (new_state (g.C.LaneCodec.grammar l.forms.tables.flat)) l.src l.at l.fn.dst l.dst

abbrev pub decreases-loop-at : goal.decreases-loop-at
decreases-loop-at g l = length l.src - l.at
