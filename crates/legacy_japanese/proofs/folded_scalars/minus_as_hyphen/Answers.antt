use Rattle.std.proofs.{Common.arith, lemmas.Bool.Decides.nat_tests}
use Rattle.legacy_japanese.proofs.folded_scalars.minus_as_hyphen.Goals as goal

pub returns-then-is_minus : goal.returns-then-is_minus
returns-then-is_minus c = grind (arith, nat_tests)

pub returns-else-is_minus : goal.returns-else-is_minus
returns-else-is_minus c = grind (arith, nat_tests)
