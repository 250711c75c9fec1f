use Rattle.legacy_base.proofs.GrammarLaws.{none_of_nothing as law}
use Rattle.legacy_codecs.proofs.laws.nothing_has_no_events.Goals as goal

pub returns : goal.returns
returns c = law
