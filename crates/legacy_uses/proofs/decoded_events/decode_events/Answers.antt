use Rattle.std.proofs.lemmas.Result.{IfOk-weaker}
use Rattle.legacy_standard.specs.DecoderLaw.{euc_kr}
use Rattle.legacy_uses.proofs.decoded_events.decode_events.Goals as goal

pub returns : goal.returns
returns c =
    IfOk-weaker c.decode_run_utf8.result _ _ (λ run made done. made.standard (euc_kr c.args.tables.now.flat.euc_kr) c.new-decoder.ensures done)
    c.decode_run_utf8.ensures.run
