use Rattle.std.proofs.Common.{◌≡◌, ◌∙◌, Bool, true, false, not, refl}
use Rattle.std.specs.Prelude.{if◌then◌else◌}
use mir.Val.{bool_byte}
use Rattle.legacy_decoder_engine.proofs.drive.read_byte.Goals as goal

-- a byte is read unless it is left unread
read_count : (unread : Bool) → bool_byte (not unread) ≡ (if unread then 0 else 1)
read_count true = refl
read_count false = refl

pub returns-in-MalformedSequence : goal.returns-in-MalformedSequence
returns-in-MalformedSequence g c =
    let s = c.in-MalformedSequence in
    let enough = rw (c.reading_need.ensures.units g.T.Destination.form) at (c.has_room.ensures.some c.if-not-has_room.false) in
    ((s.unread, rw c.after_malformed.ensures s.ensures, c.from.ensures ∙ read_count s.unread, enough), refl)
