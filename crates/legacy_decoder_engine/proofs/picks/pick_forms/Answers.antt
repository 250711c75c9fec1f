use Rattle.std.proofs.{Common.arith, lemmas.Grind.flat_map-append}
use Rattle.legacy_decoder_engine.proofs.Picking.{picked, below_end}
use Rattle.legacy_decoder_engine.proofs.picks.pick_forms.Goals as goal

pub returns-clause-forms : goal.returns-clause-forms
returns-clause-forms c = grind (arith, flat_map-append, below_end, picked, c.type_inv.block)
