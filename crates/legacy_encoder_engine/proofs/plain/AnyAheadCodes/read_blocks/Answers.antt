use Rattle.std.proofs.{Common.{length, arith}, lemmas.List.length-take-le}
use Rattle.legacy_encoder_engine.proofs.{PlainServes.{plain_serves, plain_ascii}, ReadingAhead.encodes_ascii}
use Rattle.legacy_encoder_engine.proofs.plain.AnyAheadCodes.read_blocks.Goals as goal

pub returns : goal.returns
returns g c =
    let plain = g.C.PlainCodes.plain c.args.self.now in
    let e = c.copy_ascii.ensures in
    encodes_ascii g.S.TextCursor.form (length c.args.dst.now) 0 (plain_serves _ _ plain) _ e.read e.left e.ascii e.passed e.bytes
    (λ k h. plain_ascii _ _ plain _ (e.ascii k)) (length-take-le _ _ c.requires) (omega (arith, e.fits))
