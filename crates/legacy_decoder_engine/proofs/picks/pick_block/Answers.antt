use Rattle.std.proofs.Common.{take, sym, append-nil}
use Rattle.legacy_decoder_engine.specs.PickedForms.{forms_of}
use Rattle.legacy_decoder_engine.proofs.Picking.{front_chunk}
use Rattle.legacy_decoder_engine.proofs.picks.pick_block.Goals as goal

pub returns-then-not-are_many-clause-forms : goal.returns-then-not-are_many-clause-forms
returns-then-not-are_many-clause-forms g c = sym (append-nil (forms_of (take c.args.count c.args.codes.now)))

pub pick_forms-requires-clause-past : goal.pick_forms-requires-clause-past
pick_forms-requires-clause-past g c i h = rw (front_chunk c.args.block.now i h) at (c.past_ascii-past.ensures i h)

pub pick_forms-requires-clause-starts : goal.pick_forms-requires-clause-starts
pick_forms-requires-clause-starts g c = c.in-Some.ensures

pub returns-in-Some-clause-forms : goal.returns-in-Some-clause-forms
returns-in-Some-clause-forms g c = c.pick_forms.ensures.forms

pub returns-in-None-clause-forms : goal.returns-in-None-clause-forms
returns-in-None-clause-forms g c = sym (append-nil (forms_of (take c.args.count c.args.codes.now)))
