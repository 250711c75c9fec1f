use Rattle.legacy_encoder_engine.proofs.PlainServes.{plain_moves}
use Rattle.legacy_encoder_engine.proofs.plain.AnyEncoderMoves.next.Goals as goal

pub returns : goal.returns
returns g c = plain_moves (g.C.PlainCodes.codec c.args.self.now) g.C.PlainCodes.past
    (g.C.PlainCodes.plain c.args.self.now) c.args.c c.code_of.result c.code_of.ensures
