use Rattle.std.proofs.Common.{sym, refl}
use Rattle.legacy_tables.proofs.tables.packed_checks.check_runs.Goals as goal

pub returns-in-Some-first_difference : goal.returns-in-Some-first_difference
returns-in-Some-first_difference g c =
    let found = rw c.new-checked.ensures at (sym c.in-Some-first_difference.ensures) in
    rw (sym c.in_default.ensures, found) refl
