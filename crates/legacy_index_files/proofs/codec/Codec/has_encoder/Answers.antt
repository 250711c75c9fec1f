use Rattle.std.proofs.Common.{rules}
use Rattle.legacy_index_files.proofs.codec.Codec.has_encoder.Goals as goal

pub returns : goal.returns
returns c = search rules
