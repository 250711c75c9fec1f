use Rattle.std.proofs.{Common.arith, lemmas.List.{map-id, take-take}}
use Rattle.legacy_text.proofs.Ascii.{put_slice}
use Rattle.legacy_text.proofs.blocks.widen_eight.Goals as goal

pub returns-clause-ascii : goal.returns-clause-ascii
returns-clause-ascii c = rw (take-take c.eight_ascii_count.result 8 c.args.bytes.now c.eight_ascii_count.ensures.most) at c.eight_ascii_count.ensures.ascii

pub returns-clause-stored : goal.returns-clause-stored
returns-clause-stored c =
    let count = c.eight_ascii_count.result in
    simp map-id (put_slice c.args.at 8 count c.args.dst.now c.args.bytes.now c.requires.room c.requires.block c.eight_ascii_count.ensures.most)
