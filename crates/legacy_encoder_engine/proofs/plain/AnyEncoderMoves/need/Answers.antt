use Rattle.std.proofs.Common.{◌∙◌, sym}
use Rattle.legacy_encoder_engine.proofs.PlainServes.{plain_serves, ascii_need, need_past_ascii}
use Rattle.legacy_encoder_engine.proofs.plain.AnyEncoderMoves.need.Goals as goal

pub returns-then-c-lt128-clause-bytes : goal.returns-then-c-lt128-clause-bytes
returns-then-c-lt128-clause-bytes g c =
    sym (ascii_need _ _ (g.C.PlainCodes.plain c.args.self.now) c.args.c c.if-c-lt128.true)

pub returns-then-c-lt128-clause-serves : goal.returns-then-c-lt128-clause-serves
returns-then-c-lt128-clause-serves g c = plain_serves _ _ (g.C.PlainCodes.plain c.args.self.now)

pub returns-else-c-lt128-clause-bytes : goal.returns-else-c-lt128-clause-bytes
returns-else-c-lt128-clause-bytes g c =
    c.past_need.ensures ∙ sym (need_past_ascii _ _ (g.C.PlainCodes.plain c.args.self.now) c.args.c c.if-c-lt128.false)

pub returns-else-c-lt128-clause-serves : goal.returns-else-c-lt128-clause-serves
returns-else-c-lt128-clause-serves g c = plain_serves _ _ (g.C.PlainCodes.plain c.args.self.now)
