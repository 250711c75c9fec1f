use Rattle.std.proofs.{Common.{length, arith}, lemmas.List.length-take-le}
use Rattle.legacy_encoder_engine.proofs.{PlainServes.{plain_serves, plain_byte}, ReadingAhead.encodes_codes}
use Rattle.legacy_encoder_engine.proofs.unit_codes.Units.put_bytes.Goals as goal

pub returns : goal.returns
returns g c =
    let plain = g.C.PlainCodes.plain c.args.self.now.encoder.now in
    let e = c.copy_codes.ensures in
    encodes_codes g.S.TextCursor.form (length c.args.dst.now) 0 (plain_serves _ _ plain) (plain_byte _ _ plain) _ e.read e.left e.passed e.writes
    (length-take-le _ _ c.requires) (omega (arith, e.fits))
