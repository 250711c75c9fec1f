use Rattle.std.proofs.Common.{refl}
use Rattle.legacy_encoder_engine.specs.declared.moves.EncoderMove.TheVariants.{One}
use Rattle.legacy_encoder_engine.proofs.PlainServes.{plain_puts, plain_code}
use Rattle.legacy_encoder_engine.proofs.plain.AnyAheadCodes.put_code.Goals as goal

pub returns-then-c-lt128-clause-puts : goal.returns-then-c-lt128-clause-puts
returns-then-c-lt128-clause-puts g c =
    let plain = g.C.PlainCodes.plain c.args.self.now in
    plain_puts _ _ plain c.args.c (One c.args.c)
    (plain_code _ _ plain c.args.c c.if-c-lt128.true) refl refl _ _ _ _ c.put_move.ensures.bytes c.put_move.ensures.end
