use Rattle.std.proofs.Common.{◌+◌, ◌*◌, ◌≤◌, take}
use Rattle.legacy_decoder_engine.specs.ReadAhead.{Writes}
use Rattle.legacy_decoder_engine.proofs.forms.read_turns.Given as goal

-- the scalars of the bytes read are written, and there is room for the turns left
abbrev pub invariant-loop-left : goal.invariant-loop-left
invariant-loop-left g l =
    let T = g.T.Destination in
    (l.at + 4 * l.left ≤ 4 * l.most) × (l.most ≤ l.at + l.left) × (T.room l.fn.dst + 4 * l.left ≤ T.room l.dst + 4 * l.most)
    × Writes T (g.C.LaneCodec.grammar l.forms.tables.flat) (take l.at l.src) l.fn.dst l.dst

abbrev pub decreases-loop-left : goal.decreases-loop-left
decreases-loop-left g l = l.left
