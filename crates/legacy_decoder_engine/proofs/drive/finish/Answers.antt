use Rattle.std.proofs.Common.{refl}
use Rattle.legacy_decoder_engine.proofs.drive.finish.Goals as goal

pub returns-then-not-has_room : goal.returns-then-not-has_room
returns-then-not-has_room g c =
    let needs = c.release_need.ensures in
    let lacks = rw (needs.units g.T.Destination.form) at (c.has_room.ensures.none c.if-not-has_room.true) in
    (refl, c.if-not-last.false, c.has_report.ensures.some c.if-not-has_report.false, lacks, needs.covered)
