use Rattle.std.proofs.Common.{◌≤◌, length, take, refl}
use Rattle.legacy_text.specs.EncodingForm.{Utf8}
use Rattle.legacy_c.specs.Saved.{Changes}
use Rattle.legacy_c.specs.DecoderCalls.{RawCall, refusal}
use Rattle.legacy_c.specs.declared.saved.DecoderAnswer.{DecoderAnswer}
use Rattle.legacy_c.proofs.Refusals.{done_by}
use Rattle.legacy_c.proofs.legacy_decode_to_utf8_raw.Goals as goal

pub returns-clause-call : goal.returns-clause-call
returns-clause-call c not_refused =
    let new = c.with_decoder.new.output in
    let done =
    done_by c.with_decoder.result c.unwrap_or.result refusal (λ (a : DecoderAnswer). a.status)
    (λ (a : DecoderAnswer). Changes c.args.tables.now c.args.decoder.now c.with_decoder.new.saved (λ before after.
    RawCall Utf8 c.args.source.now c.args.last (length c.args.output.now) before after a (take a.written new) × (a.written ≤ length new)))
    c.unwrap_or.ensures refl c.with_decoder.ensures.done not_refused in
    record {
      before = done.before;
      after = done.after;
      saved_before = done.saved_before;
      saved_after = done.saved_after;
      between = done.between.0;
    }
