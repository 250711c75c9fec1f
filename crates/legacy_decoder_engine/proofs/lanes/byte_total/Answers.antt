use Rattle.std.proofs.{Common.{◌+◌, ◌*◌, ◌%◌, ◌≤◌, length, arith}, lemmas.List.take_all, lemmas.Simd.length-chunk}
use lib.Lanes.{chunk}
use Rattle.legacy_decoder_engine.proofs.LaneUnits.{ascii_first, ascii_more}
use Rattle.legacy_decoder_engine.proofs.lanes.byte_total.Goals as goal

pub loop-group-preserved : goal.loop-group-preserved
loop-group-preserved c = grind (arith, ascii_more, take_all, length-chunk, c.byte_count-bytes.ensures)

pub returns : goal.returns
returns c =
    let ks = c.args.kept.now in
    let at = 8 * c.loop-group.group in
    let room : at + 8 ≤ length ks = omega arith in
    let more = ascii_more at (c.args.count % 8) c.args.count ks (omega arith) room (omega arith) in
    let first = ascii_first (c.args.count % 8) (chunk at 8 ks) (omega (arith, length-chunk at 8 ks room)) in
    grind (arith, c.byte_count.ensures, c.first_units-last.ensures)
