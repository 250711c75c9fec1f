use Rattle.legacy_index_files.proofs.EncodingNames.{named}
use Rattle.legacy_index_files.proofs.encodings.Encoding.by_name.Goals as goal

pub returns : goal.returns
returns c = named c.args.name.now c.first_named.result c.first_named.ensures
