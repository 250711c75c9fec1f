use Rattle.std.proofs.Common.{◌≡◌, ◌+◌, ◌≤◌, ◌++◌, drop, length, decimal}
use Rattle.legacy_codecs.proofs.character_references.put_digits.Given as goal

abbrev pub invariant-digits : goal.invariant-digits
invariant-digits l = record {
  place : l.place ≤ l.end;
  room : l.end + length (decimal l.rest) ≤ l.place + 7;
  digits : decimal l.rest ++ drop l.place l.text ≡ decimal l.number ++ drop l.end l.fn.text;
}

abbrev pub decreases-digits : goal.decreases-digits
decreases-digits l = l.rest
