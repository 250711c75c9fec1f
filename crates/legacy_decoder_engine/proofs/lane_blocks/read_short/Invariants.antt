use Rattle.std.proofs.Common.{◌-◌, length}
use Rattle.{legacy_base.specs.States.new_state, legacy_decoder_engine.specs.ReadAhead.ReadsAhead}
use Rattle.legacy_decoder_engine.proofs.lane_blocks.read_short.Given as goal

abbrev pub invariant-loop-codes : goal.invariant-loop-codes
invariant-loop-codes g l = ReadsAhead g.T.Destination (new_state (g.C.LaneCodec.grammar l.tables.flat)) l.src l.at l.fn.dst l.dst

abbrev pub decreases-loop-codes : goal.decreases-loop-codes
decreases-loop-codes g l = length l.src - l.at
