use Rattle.std.proofs.Common.{ap, refl, append_assoc, ◌∙◌}
use Rattle.std.proofs.Math.Nat.{le_trans}
use Rattle.legacy_text.specs.EncodingForm.{all_code_units}
use Rattle.legacy_codecs.proofs.{KeptAsWritten.{kept_is, kept_within}, RunDrivers.{room_written, room_report, few_events}}
use Rattle.legacy_codecs.proofs.decode_run.call_once.Goals as goal

pub new-kept-requires : goal.new-kept-requires
new-kept-requires g c = c.requires.buffer

pub push_items-requires : goal.push_items-requires
push_items-requires g c =
    let call = c.step-answer.ensures.call in
    let units = ap (all_code_units g.F.OutputForm.form) c.scalars.ensures.value ∙ call.2 in
    let fits = rw c.new-kept.ensures.free at call.1.fits in
    room_written _ c.requires.room (kept_within g.F.OutputForm.form _ call.0 _ _ c.new-kept.ensures.kept units fits)

pub push_report-requires : goal.push_report-requires
push_report-requires g c =
    let call = c.step-answer.ensures.call in
    let units = ap (all_code_units g.F.OutputForm.form) c.scalars.ensures.value ∙ call.2 in
    let fits = rw c.new-kept.ensures.free at call.1.fits in
    let few = kept_within g.F.OutputForm.form _ call.0 _ _ c.new-kept.ensures.kept units fits in
    room_report _ c.requires.room few c.push_items.ensures.len c.push_items.ensures.capacity

pub returns : goal.returns
returns g c =
    let call = c.step-answer.ensures.call in
    let units = ap (all_code_units g.F.OutputForm.form) c.scalars.ensures.value ∙ call.2 in
    let kept = kept_is g.F.OutputForm.form _ call.0 _ c.new-kept.ensures.kept c.scalars.ensures.scalar call.1.scalar units in
    let one = rw c.new-kept.ensures.free at call.1 in
    let few = kept_within g.F.OutputForm.form _ call.0 _ _ c.new-kept.ensures.kept units one.fits in
    record {
      call = (
        c.step-answer.result.0,
        call.0,
        one,
        c.push_report.ensures.empty,
        (rw (c.push_report.ensures.items, c.push_items.ensures.items, kept, append_assoc) refl),
      );
      len = few_events _ c.requires.room few c.push_items.ensures.len c.push_report.ensures.len;
      capacity = le_trans c.push_items.ensures.capacity c.push_report.ensures.capacity;
    }
