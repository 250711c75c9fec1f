use Rattle.std.proofs.Common.{◌∙◌, ◌++◌, ap}
use Rattle.legacy_text.specs.EncodingForm.{Utf16, all_code_units}
use Rattle.legacy_base.proofs.SameUnits.{all_units_same}
use Rattle.legacy_uses_tests.proofs.character_list.CharacterList.decode.Goals as goal

pub returns-clause-call : goal.returns-clause-call
returns-clause-call g c =
    let call = c.step.ensures.call in
    let units = call.2 ∙ ap (λ l. all_code_units Utf16 l ++ all_code_units Utf16 call.0) c.requires in
    rw (all_units_same Utf16 _ call.0 c.step.new.dst.scalars call.1.scalar units) call.1
