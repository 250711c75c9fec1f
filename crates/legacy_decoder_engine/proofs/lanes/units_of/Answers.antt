use Rattle.std.proofs.lemmas.List.{get_or-take}
use Rattle.legacy_decoder_engine.proofs.LaneUnits.{is_form}
use Rattle.legacy_decoder_engine.proofs.lanes.units_of.Goals as goal

pub returns-clause-forms : goal.returns-clause-forms
returns-clause-forms g c code k h lane some =
    is_form (g.met.C.LaneCodec.ascii c.args.tables.now) _ c.entries_at-entries.ensures.pairs (c.chosen.ensures.small k h) lane
    (c.requires.within k h) (c.entries_at-entries.ensures.are k h) (rw (get_or-take 8 c.args.kept.now k 0 h) at (c.chosen.ensures.lanes k h)) some
