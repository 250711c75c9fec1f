use Rattle.std.proofs.Common.{refl}
use Rattle.legacy_tables.proofs.tables.flat.FlatTables.narrow.Goals as goal

pub returns-in_default-clause-other : goal.returns-in_default-clause-other
returns-in_default-clause-other c = λ _. refl
