use Rattle.std.proofs.{Common.arith, lemmas.List.{map-id, take-take}}
use Rattle.legacy_text.proofs.Ascii.{put_slice}
use Rattle.legacy_text.proofs.blocks.widen_sixteen.Goals as goal

pub returns-clause-ascii : goal.returns-clause-ascii
returns-clause-ascii c = rw (take-take c.ascii_count.result 16 c.args.bytes.now c.ascii_count.ensures.most) at c.ascii_count.ensures.ascii

pub returns-clause-stored : goal.returns-clause-stored
returns-clause-stored c =
    simp map-id (put_slice c.args.at 16 c.ascii_count.result c.args.dst.now c.args.bytes.now c.requires.room c.requires.block c.ascii_count.ensures.most)
