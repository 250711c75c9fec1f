use Rattle.std.proofs.Common.{ap, arith, get_or, length}
use Rattle.{legacy_text.proofs.CodeUnits.code_units_ascii, legacy_decoder_engine.proofs.{JoinedReads.reads_front, WrittenReads.{reads_none, writes_one}}}
use Rattle.legacy_japanese.proofs.Iso2022JpAhead.{ascii_text_yields}
use Rattle.legacy_japanese.proofs.iso_2022_jp.read_ahead.read_ascii_text_bytes.Goals as goal

pub loop-at-init : goal.loop-at-init
loop-at-init g c = reads_none _ _ _ _

pub loop-at-preserved : goal.loop-at-preserved
loop-at-preserved g c =
    let byte = get_or c.args.src.now c.loop-at.at 0 in
    let text = c.is_ascii_text.ensures c.if-is_ascii_text.true in
    let unit = ap length (code_units_ascii g.T.Destination.form byte text.0) in
    let yields = ascii_text_yields c.args.tables.now.flat.jis0208 byte text in
    grind (arith, reads_front, writes_one, yields, unit)

pub put-requires : goal.put-requires
put-requires g c =
    let text = c.is_ascii_text.ensures c.if-is_ascii_text.true in
    let unit = ap length (code_units_ascii g.T.Destination.form (get_or c.args.src.now c.loop-at.at 0) text.0) in grind (arith, unit)

pub returns-else-free : goal.returns-else-free
returns-else-free g c = c.loop-at.invariant

pub returns-else-is_ascii_text : goal.returns-else-is_ascii_text
returns-else-is_ascii_text g c = c.loop-at.invariant

pub returns-after-loop-at : goal.returns-after-loop-at
returns-after-loop-at g c = c.loop-at.invariant
