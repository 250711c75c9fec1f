use Rattle.legacy_decoder_engine.proofs.Picking.{whole_end}
use Rattle.legacy_decoder_engine.proofs.picks.whole_forms.Goals as goal

pub returns-clause-end : goal.returns-clause-end
returns-clause-end c = whole_end c.args.past c.args.starts c.args.limit c.requires.starts c.requires.some c.requires.most
