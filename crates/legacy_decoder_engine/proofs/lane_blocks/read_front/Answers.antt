use Rattle.std.proofs.{Common.{◌≡◌, ◌≤◌, length, take, ap, arith}, lemmas.List.length-take}
use Rattle.legacy_decoder_engine.specs.{PickedForms.forms_of}
use Rattle.legacy_decoder_engine.proofs.{JoinedReads.reads_front, LaneUnits.front_forms}
use Rattle.legacy_decoder_engine.proofs.lane_blocks.read_front.Goals as goal

pub returns-then-done-count-clause-ahead : goal.returns-then-done-count-clause-ahead
returns-then-done-count-clause-ahead g c =
    let p = c.pick_blocks-count in
    let e = c.put_codes-done.ensures in
    let src = c.args.src.now in
    let done = c.put_codes-done.result in
    let bytes : c.byte_total.result ≡ length (forms_of (take done p.new.codes)) = omega arith in
    let read = rw (← bytes) at (front_forms done p.result.0 p.result.1 p.new.codes src (omega arith) p.ensures.forms) in
    let within : c.byte_total.result ≤ length src = omega (arith, bytes, ap length read, length-take c.byte_total.result src) in
    reads_front within (rw read e.writes.writes) (λ h. e.slack (omega arith)) (λ h. e.had (omega arith))

pub byte_total-requires : goal.byte_total-requires
byte_total-requires g c = omega arith
