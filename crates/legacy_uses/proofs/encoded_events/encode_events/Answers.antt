use Rattle.std.proofs.lemmas.Result.{IfOk-weaker}
use Rattle.legacy_base.specs.Encoders.{euc_kr}
use Rattle.legacy_uses.proofs.encoded_events.encode_events.Goals as goal

pub returns : goal.returns
returns c =
    IfOk-weaker c.encode_run_utf8.result _ _
    (λ run made done. made.standard (euc_kr c.args.tables.now.flat.euc_kr) tt tt c.new-encoder.ensures.state done) c.encode_run_utf8.ensures.run
