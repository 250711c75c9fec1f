use Rattle.std.proofs.lemmas.Result.{IfOk-weaker}
use Rattle.legacy_codecs.proofs.RunResults.{run_decodes}
use Rattle.legacy_codecs.proofs.decode_run.decode_run_utf16.Goals as goal

pub returns-clause-run : goal.returns-clause-run
returns-clause-run g c = IfOk-weaker c.decode_run.result _ _ (λ run made. run_decodes made.0 made.1) c.decode_run.ensures.run
