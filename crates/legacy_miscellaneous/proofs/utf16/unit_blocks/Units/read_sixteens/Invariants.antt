use Rattle.std.proofs.Common.{◌+◌, ◌*◌, ◌<◌, ◌≤◌, length}
use Rattle.{legacy_base.specs.{Grammar.utf16, States.new_state}, legacy_decoder_engine.specs.ReadAhead.ReadsAhead}
use Rattle.legacy_miscellaneous.proofs.utf16.unit_blocks.Units.read_sixteens.Given as goal

-- the bytes before `at` are read, and there are bytes and room for the turns left
abbrev pub invariant-loop-left : goal.invariant-loop-left
invariant-loop-left g l =
    let T = g.T.Destination in
    (l.at + 32 * l.left ≤ length l.src)
    × (0 < l.left → 16 * l.left + 3 ≤ T.room l.dst)
    × ReadsAhead T (new_state (utf16 l.self.big_endian)) l.src l.at l.fn.dst l.dst

abbrev pub decreases-loop-left : goal.decreases-loop-left
decreases-loop-left g l = l.left
