use Rattle.legacy_command.proofs.CommandLine.{one_word}
use Rattle.legacy_command.proofs.words.+is_indexes.Goals as goal

pub returns-in-len1 : goal.returns-in-len1
returns-in-len1 t c = one_word c.args.words.now c.in-len1.len_at_least c.in-len1.len_below
