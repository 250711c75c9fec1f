use Rattle.legacy_encoder_engine.proofs.PlainServes.{plain_serves}
use Rattle.legacy_encoder_engine.proofs.plain.AnyEncoderMoves.is_pending.Goals as goal

pub returns-clause-serves : goal.returns-clause-serves
returns-clause-serves g c = plain_serves _ _ (g.C.PlainCodes.plain c.args.self.now)
