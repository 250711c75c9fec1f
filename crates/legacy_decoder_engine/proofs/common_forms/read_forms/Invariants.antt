use Rattle.std.proofs.Common.{ℕ, ◌+◌, ◌*◌, ◌%◌, ◌≤◌, length, take}
use Rattle.legacy_decoder_engine.specs.ReadAhead.{Writes}
use Rattle.legacy_decoder_engine.proofs.common_forms.read_forms.Given as goal

-- the scalars of the bytes read are written, and there are bytes and room for the turns left
abbrev pub invariant-loop-left : goal.invariant-loop-left
invariant-loop-left g l =
    let T = g.T.Destination in
    let turns : ℕ = 4 * l.left + l.turns % 4 in
    (l.at + 2 * turns ≤ length l.src) × (l.at + 2 * turns ≤ l.most) × (3 * turns + 3 ≤ T.room l.dst)
    × Writes T (g.F.FrontForms.grammar l.forms) (take l.at l.src) l.fn.dst l.dst

abbrev pub decreases-loop-left : goal.decreases-loop-left
decreases-loop-left g l = l.left
