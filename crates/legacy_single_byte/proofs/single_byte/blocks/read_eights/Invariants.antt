use Rattle.std.proofs.Common.{◌+◌, ◌*◌, ◌≤◌, length}
use Rattle.{legacy_base.specs.{Grammar.single_byte, States.new_state}, legacy_decoder_engine.specs.ReadAhead.ReadsAhead}
use Rattle.legacy_single_byte.proofs.single_byte.blocks.read_eights.Given as goal

-- what was read was written, and there are bytes and room for the turns left
abbrev pub invariant-loop-left : goal.invariant-loop-left
invariant-loop-left g l =
    let T = g.T.Destination in
    (l.at + 8 * l.left ≤ l.most)
    × (l.at + 8 * l.left + 64 ≤ length l.src)
    × (8 * l.left + 24 ≤ T.room l.dst)
    × ReadsAhead T (new_state (single_byte l.scalars.table.now.entries)) l.src l.at l.fn.dst l.dst

abbrev pub decreases-loop-left : goal.decreases-loop-left
decreases-loop-left g l = l.left
