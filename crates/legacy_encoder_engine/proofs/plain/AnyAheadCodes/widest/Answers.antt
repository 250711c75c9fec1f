use Rattle.legacy_encoder_engine.proofs.PlainServes.{plain_serves, widest_need}
use Rattle.legacy_encoder_engine.proofs.plain.AnyAheadCodes.widest.Goals as goal

pub returns-clause-fits : goal.returns-clause-fits
returns-clause-fits g c = widest_need _ _ (g.C.PlainCodes.plain c.args.self.now)

pub returns-clause-serves : goal.returns-clause-serves
returns-clause-serves g c = plain_serves _ _ (g.C.PlainCodes.plain c.args.self.now)
