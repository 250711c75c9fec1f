use Rattle.std.proofs.Common.{◌≡◌, ◌≤◌, ◌+◌, ◌-◌, length, take}
use Rattle.legacy_text.specs.EncodingForm.{total_unit_count}
use Rattle.legacy_encoder_engine.specs.UnfinishedCall.{Underway}
use Rattle.legacy_encoder_engine.proofs.drive.drive_encoder.Given as goal

-- the call is under way, and the output has the written bytes
abbrev pub invariant-loop-c : goal.invariant-loop-c
invariant-loop-c g l =
    let E = g.E.EncoderMoves in
    let S = g.S.Source in
    Underway (E.state l.fn.encoder) (S.left l.fn.src) l.last (length l.fn.dst) (E.state l.encoder) (S.left l.src) (take l.written l.dst)
    × (l.written ≤ length l.dst)
    × (S.passed l.src + total_unit_count S.form (S.left l.src) ≡ S.passed l.fn.src + total_unit_count S.form (S.left l.fn.src))

-- each move except the last writes
abbrev pub decreases-loop-c : goal.decreases-loop-c
decreases-loop-c g l = length l.initial.dst - l.written
