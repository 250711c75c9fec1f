use Rattle.std.proofs.Common.{rules}
use Rattle.legacy_exports.proofs.encode.encode_by_number.Goals as goal

pub returns-clause-bytes : goal.returns-clause-bytes
returns-clause-bytes g c = search rules

pub returns-clause-taken : goal.returns-clause-taken
returns-clause-taken g c = search rules
