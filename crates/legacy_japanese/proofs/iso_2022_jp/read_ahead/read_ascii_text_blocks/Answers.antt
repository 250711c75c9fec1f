use Rattle.std.proofs.{Common.arith, lemmas.List.take-take}
use Rattle.legacy_decoder_engine.proofs.WrittenReads.{reads_none}
use Rattle.legacy_japanese.proofs.Iso2022JpAhead.{ascii_text, reads_ascii_text_block}
use Rattle.legacy_japanese.proofs.iso_2022_jp.read_ahead.read_ascii_text_blocks.Goals as goal

pub loop-at-init : goal.loop-at-init
loop-at-init g c = reads_none _ _ _ _

pub put_block-requires-clause-ascii : goal.put_block-requires-clause-ascii
put_block-requires-clause-ascii g c =
    let e = c.ascii_text_count-count.ensures in ascii_text _ (rw (take-take _ 64 _ e.most) at e.text)

pub returns-then-count-lt64 : goal.returns-then-count-lt64
returns-then-count-lt64 g c =
    let e = c.ascii_text_count-count.ensures in
    let put = c.put_block.ensures in
    reads_ascii_text_block _ _ c.args.src.now _ _ (omega arith) (omega arith) e.most e.text put.contents put.room put.loan c.loop-at.invariant

pub loop-at-preserved : goal.loop-at-preserved
loop-at-preserved g c =
    let e = c.ascii_text_count-count.ensures in
    let put = c.put_block.ensures in
    reads_ascii_text_block _ _ c.args.src.now _ _ (omega arith) (omega arith) e.most e.text put.contents put.room put.loan c.loop-at.invariant

pub returns-else-free : goal.returns-else-free
returns-else-free g c = c.loop-at.invariant

pub returns-after-loop-at : goal.returns-after-loop-at
returns-after-loop-at g c = c.loop-at.invariant
