use Rattle.legacy_command.proofs.HostLists.{mapped_more}
use Rattle.legacy_command.proofs.host.words_of.Goals as goal

pub words-preserved : goal.words-preserved
words-preserved g c =
    rw c.in_ok-push.ensures.items (mapped_more _ _ c.args.arguments.now c.words.argument-index c.argument-item.result _ _ c.words-test.true
    c.argument-item.is c.words.invariant c.as_str.ensures.value)
