use Rattle.std.proofs.Common.{◌-◌, ◌≤◌, length}
use Rattle.{legacy_base.specs.{Grammar.Grammar, States.new_state}, legacy_decoder_engine.specs.ReadAhead.{HasAscii, ReadsAhead}}
use Rattle.legacy_decoder_engine.proofs.read_ahead.read_wide_blocks.Given as goal

abbrev pub invariant-loop-at : goal.invariant-loop-at
invariant-loop-at g l =
    (l.at ≤ length l.src) × ((grammar : Grammar) → HasAscii grammar → ReadsAhead g.T.Destination (new_state grammar) l.src l.at l.fn.dst l.dst)

abbrev pub decreases-loop-at : goal.decreases-loop-at
decreases-loop-at g l = length l.src - l.at
