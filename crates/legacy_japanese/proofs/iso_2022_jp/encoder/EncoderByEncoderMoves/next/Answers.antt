use Rattle.std.proofs.Common.{◌∙◌, sym}
use Rattle.legacy_japanese.proofs.Iso2022JpEncoderMoves.{stays, escapes}
use Rattle.legacy_japanese.proofs.iso_2022_jp.encoder.EncoderByEncoderMoves.next.Goals as goal

pub returns-then-not-differs : goal.returns-then-not-differs
returns-then-not-differs g c = stays _ c.asked-mode.ensures (sym c.differs.ensures ∙ c.if-not-differs.true)

pub returns : goal.returns
returns g c = escapes _ c.asked-mode.ensures (sym c.differs.ensures ∙ c.if-not-differs.false) c.escape_to.ensures.escapes c.escape_to.ensures.bytes
