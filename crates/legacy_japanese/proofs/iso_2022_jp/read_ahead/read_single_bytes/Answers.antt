use Rattle.std.proofs.Common.{arith, get_or}
use Rattle.legacy_decoder_engine.proofs.{JoinedReads.reads_front, WrittenReads.{reads_none, writes_one, short}}
use Rattle.legacy_japanese.proofs.Iso2022JpAhead.{single_text_yields}
use Rattle.legacy_japanese.proofs.iso_2022_jp.read_ahead.read_single_bytes.Goals as goal

pub loop-at-init : goal.loop-at-init
loop-at-init g c = reads_none _ _ _ _

pub put-requires : goal.put-requires
put-requires g c =
    let byte = get_or c.args.src.now c.loop-at.at 0 in
    let yields = single_text_yields c.args.tables.now.flat.jis0208 c.args.mode byte c.in-Some.scalar c.in-Some.ensures.0 c.in-Some.ensures.1 in
    let few = short g.T.Destination.form c.in-Some.scalar yields.0 in grind (arith, few)

pub loop-at-preserved : goal.loop-at-preserved
loop-at-preserved g c =
    let byte = get_or c.args.src.now c.loop-at.at 0 in
    let yields = single_text_yields c.args.tables.now.flat.jis0208 c.args.mode byte c.in-Some.scalar c.in-Some.ensures.0 c.in-Some.ensures.1 in
    let few = short g.T.Destination.form c.in-Some.scalar yields.0 in
    let all = yields.1 in grind (arith, reads_front, writes_one, all, few)
