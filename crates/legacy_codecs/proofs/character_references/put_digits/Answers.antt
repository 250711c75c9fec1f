use Rattle.std.proofs.Common.{refl, arith}
use Rattle.legacy_codecs.proofs.ReferenceTexts.{length-decimal_seven, length-decimal_one, length-decimal_more, digit_before, first_digit}
use Rattle.legacy_codecs.proofs.character_references.put_digits.Goals as goal

pub digits-init : goal.digits-init
digits-init c = record { place = omega arith; room = omega (arith, length-decimal_seven c.args.number c.requires.number); digits = refl }

pub digits-preserved : goal.digits-preserved
digits-preserved c = grind (arith, length-decimal_more, digit_before)

pub returns-clause-digits : goal.returns-clause-digits
returns-clause-digits c = grind (arith, length-decimal_one, first_digit)
