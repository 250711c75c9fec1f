use Rattle.std.proofs.lemmas.Result.{IfOk-weaker}
use Rattle.legacy_codecs.proofs.RunResults.{run_encodes}
use Rattle.legacy_codecs.proofs.encode_run.encode_run_utf8.Goals as goal

pub returns-clause-run : goal.returns-clause-run
returns-clause-run g c = IfOk-weaker c.encode_run.result _ _ (λ run made. run_encodes made.0 made.1) c.encode_run.ensures.run
