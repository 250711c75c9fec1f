use Rattle.std.proofs.Common.{rules}
use Rattle.legacy_index_files.proofs.encodings.has_name.Goals as goal

pub returns : goal.returns
returns c = search rules
