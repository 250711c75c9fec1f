use Rattle.std.proofs.Common.{◌≡◌, ◌≤◌, ◌++◌, drop, length, decimal}
use Rattle.legacy_streams.proofs.lines.put_digits.Given as goal

abbrev pub invariant-digits : goal.invariant-digits
invariant-digits l =
    record { place : l.place ≤ 20; room : length (decimal l.rest) ≤ l.place; digits : decimal l.rest ++ drop l.place l.digits ≡ decimal l.number }

abbrev pub decreases-digits : goal.decreases-digits
decreases-digits l = l.rest
