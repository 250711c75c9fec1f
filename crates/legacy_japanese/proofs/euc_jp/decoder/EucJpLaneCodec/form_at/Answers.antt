use Rattle.legacy_japanese.proofs.euc_jp.decoder.EucJpLaneCodec.form_at.Goals as goal

pub returns-in-None : goal.returns-in-None
returns-in-None c = c.shifted_form.ensures c.args.fourth
