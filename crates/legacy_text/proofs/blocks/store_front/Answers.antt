use Rattle.std.proofs.lemmas.List.{take-take}
use Rattle.legacy_text.proofs.blocks.store_front.Goals as goal

pub returns-clause-ascii : goal.returns-clause-ascii
returns-clause-ascii c = rw (take-take c.ascii_count.result 16 c.args.bytes.now c.ascii_count.ensures.most) at c.ascii_count.ensures.ascii

pub returns-clause-stored : goal.returns-clause-stored
returns-clause-stored c =
    rw (take-take c.ascii_count.result 16 c.args.bytes.now c.ascii_count.ensures.most) at (c.store.ensures c.ascii_count.result c.ascii_count.ensures.most)
