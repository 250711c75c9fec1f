use Rattle.std.proofs.Common.{rules}
use Rattle.legacy_exports.proofs.decode.decode_by_number.Goals as goal

pub returns-clause-units : goal.returns-clause-units
returns-clause-units g c = c.decode_over_indexes.ensures.units

pub returns-clause-text : goal.returns-clause-text
returns-clause-text g c = search rules depth 4

pub returns-clause-unchanged : goal.returns-clause-unchanged
returns-clause-unchanged g c = c.decode_over_indexes.ensures.unchanged

pub returns-clause-taken : goal.returns-clause-taken
returns-clause-taken g c = search rules depth 4
