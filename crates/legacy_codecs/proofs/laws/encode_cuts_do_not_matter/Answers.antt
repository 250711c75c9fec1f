use Rattle.legacy_codecs.proofs.EncodeRunEvents.{encode_cuts_do_not_matter as law}
use Rattle.legacy_codecs.proofs.laws.encode_cuts_do_not_matter.Goals as goal

pub returns : goal.returns
returns c = law
