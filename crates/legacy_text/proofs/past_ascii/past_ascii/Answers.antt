use Rattle.legacy_text.proofs.PastAscii.{past_bits}
use Rattle.legacy_text.proofs.past_ascii.past_ascii.Goals as goal

pub returns : goal.returns
returns c = past_bits c.args.block c.fits-block.0
