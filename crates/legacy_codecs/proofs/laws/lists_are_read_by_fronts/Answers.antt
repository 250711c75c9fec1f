use Rattle.legacy_base.proofs.GrammarLaws.{read_by_fronts as law}
use Rattle.legacy_codecs.proofs.laws.lists_are_read_by_fronts.Goals as goal

pub returns : goal.returns
returns c = law
