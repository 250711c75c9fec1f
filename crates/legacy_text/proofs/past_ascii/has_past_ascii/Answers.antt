use Rattle.legacy_text.proofs.PastAscii.{no_eight}
use Rattle.legacy_text.proofs.past_ascii.has_past_ascii.Goals as goal

pub returns : goal.returns
returns c = no_eight c.args.src.now c.requires
