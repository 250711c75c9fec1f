use Rattle.std.proofs.Common.{◌+◌, ◌%◌}
use Rattle.legacy_text.proofs.ScalarTurns.{each_sixteenth}
use Rattle.legacy_text.proofs.scalar_turns.turned_at.Goals as goal

pub returns : goal.returns
returns c = each_sixteenth (λ a b. (a + b) % 256) 128 c.args.bytes.now c.args.place c.requires
