use Rattle.legacy_decoder_engine.proofs.Picking.{asked, lowest_set}
use Rattle.legacy_decoder_engine.proofs.picks.form_starts.Goals as goal

pub returns-then-starts-past-eq-ALL_BUT_LAST : goal.returns-then-starts-past-eq-ALL_BUT_LAST
returns-then-starts-past-eq-ALL_BUT_LAST c = asked c.args.past _ (lowest_set _) c.if-starts-past-eq-ALL_BUT_LAST.true
