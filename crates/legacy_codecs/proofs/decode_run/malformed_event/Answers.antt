use Rattle.std.proofs.{Common.arith, lemmas.Grind.common_steps}
use Rattle.legacy_codecs.proofs.decode_run.malformed_event.Goals as goal

pub returns : goal.returns
returns c = grind (arith, common_steps)
