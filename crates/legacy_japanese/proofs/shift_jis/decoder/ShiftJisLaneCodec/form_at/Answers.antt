use Rattle.legacy_japanese.proofs.shift_jis.decoder.ShiftJisLaneCodec.form_at.Goals as goal

pub returns-in-None : goal.returns-in-None
returns-in-None c = c.single_form.ensures c.args.tables.now c.args.second c.args.third c.args.fourth
