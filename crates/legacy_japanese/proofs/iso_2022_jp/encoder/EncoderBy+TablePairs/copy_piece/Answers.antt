use Rattle.std.proofs.{Common.{◌∙◌, length, sym, arith}, lemmas.List.length-take-le}
use Rattle.legacy_encoder_engine.proofs.ReadingAhead.{encodes_ascii, encodes_none, copied_part, kept_part, written_part}
use Rattle.legacy_japanese.proofs.Iso2022JpEncoderMoves.{serves, own_bytes}
use Rattle.legacy_japanese.proofs.iso_2022_jp.encoder.EncoderBy+TablePairs.copy_piece.Goals as goal

pub returns-then-has_control : goal.returns-then-has_control
returns-then-has_control g c = grind (arith, kept_part, encodes_none)

pub returns : goal.returns
returns g c =
    let e = c.copy_ascii.ensures in
    let same = c.copy_ascii.auto.dst in
    let none = sym c.has_control.ensures ∙ c.if-has_control.false in
    let written = written_part _ c.copy_ascii.result _ _ _ _ e.fits same e.bytes in
    encodes_ascii g.S.TextCursor.form (length c.args.dst.now) 2 (serves _ _) _ e.read e.left e.ascii e.passed
    (copied_part _ c.copy_ascii.result _ _ _ _ e.fits same e.bytes) (own_bytes c.args.self.now.pairs.tables.now.flat _ _ _ _ written e.ascii none (omega arith))
    (length-take-le _ _ (omega arith)) (grind (arith, e.fits, length-take-le))
