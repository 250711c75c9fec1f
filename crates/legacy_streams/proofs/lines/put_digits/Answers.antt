use Rattle.std.proofs.{Common.{◌≡◌, ◌∙◌, ◌≤◌, ◌++◌, [], drop, length, decimal, arith, ap, append-nil}, Math.ListN.drop_of_length-le}
use Rattle.legacy_codecs.proofs.ReferenceTexts.{length-decimal_one, length-decimal_more, digit_before, first_digit}
use Rattle.legacy_streams.proofs.EventLines.{length-decimal_20}
use Rattle.legacy_streams.proofs.lines.put_digits.Goals as goal

pub digits-init : goal.digits-init
digits-init c =
    let short : length c.args.digits.now ≤ 20 = omega arith in
    let none : drop 20 c.args.digits.now ≡ [] = drop_of_length-le c.args.digits.now short in
    record {
      place = omega arith;
      room = length-decimal_20 c.args.number (omega arith);
      digits = ap (λ l. decimal c.args.number ++ l) none ∙ append-nil (decimal c.args.number);
    }

pub digits-preserved : goal.digits-preserved
digits-preserved c = grind (arith, length-decimal_more, digit_before)

pub returns-clause-digits : goal.returns-clause-digits
returns-clause-digits c = grind (arith, length-decimal_one, first_digit)
