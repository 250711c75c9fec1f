use Rattle.legacy_codecs.proofs.RunEvents.{cuts_do_not_matter as law}
use Rattle.legacy_codecs.proofs.laws.cuts_do_not_matter.Goals as goal

pub returns : goal.returns
returns c = law
