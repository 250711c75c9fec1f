use Rattle.std.proofs.Common.{refl}
use Rattle.legacy_standard.proofs.private_use_rows_are_the_standards.Goals as goal

pub returns : goal.returns
returns c = refl
