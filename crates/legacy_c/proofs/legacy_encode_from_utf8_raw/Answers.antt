use Rattle.std.proofs.Common.{◌≤◌, ◌∙◌, Option, length, take, ap}
use Rattle.std.specs.Prelude.{unwrap_or}
use Rattle.legacy_c.specs.SavedEncoder.{EncoderChanges}
use Rattle.legacy_c.specs.EncoderCalls.{RawUtf8Call, encoder_refusal}
use Rattle.legacy_c.specs.declared.saved.EncoderAnswer.{EncoderAnswer}
use Rattle.legacy_c.proofs.Refusals.{none_by, raw_not_refused}
use Rattle.legacy_c.proofs.legacy_encode_from_utf8_raw.Goals as goal

pub returns-clause-refused : goal.returns-clause-refused
returns-clause-refused c refused =
    let new = c.with_encoder.new.output in
    let none =
    none_by c.with_encoder.result c.unwrap_or.result encoder_refusal (λ (a : EncoderAnswer). a.status)
    (λ (a : EncoderAnswer). EncoderChanges c.args.tables.now c.args.encoder.now c.with_encoder.new.saved (λ before after.
    RawUtf8Call c.args.source.now c.args.last (length c.args.output.now) before after a (take a.written new) × (a.written ≤ length new)))
    c.unwrap_or.ensures c.with_encoder.ensures.done
    (λ a done h. raw_not_refused _ _ _ _ _ a _ done.between.0 h) refused in
    let same = rw none at c.with_encoder.ensures.unchanged in
    (c.unwrap_or.ensures ∙ ap (λ (given : Option EncoderAnswer). unwrap_or given encoder_refusal) none, same.0, same.1, rw none at c.with_encoder.ensures.none)
