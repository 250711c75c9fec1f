use Rattle.std.proofs.{Common.{◌≡◌, ◌∙◌, ◌-◌, ap, arith, take, replicate}, lemmas.List.length-take-le, Math.Seq.take-append_seam}
use Rattle.legacy_miscellaneous.proofs.Utf16Ahead.{first_scalars, reads_first_units}
use Rattle.legacy_miscellaneous.proofs.utf16.unit_blocks.Units.read_many.Goals as goal

pub put_first-requires-clause-scalars : goal.put_first-requires-clause-scalars
put_first-requires-clause-scalars g c =
    let us = c.eight_units-units in
    rw c.first_units.ensures (first_scalars us.result c.args.count (omega arith) c.requires.count
    (λ k h. rw (us.ensures k (omega (arith, h, c.requires.count))) (c.requires.scalars k h)))

pub returns : goal.returns
returns g c =
    let us = c.eight_units-units in
    let n = c.args.count in
    let long = length-take-le n us.result (omega (arith, c.requires.count)) in
    let seam = take-append_seam (take n us.result) (replicate (8 - n) 0) in
    let front : take n c.first_units.result ≡ take n us.result = ap (take n) c.first_units.ensures ∙ rw long at seam in
    let e = c.put_first.ensures in
    let reads = reads_first_units g.T.Destination _ c.args.src.now us.result n c.args.dst.now _ (λ k. (c.type_inv.src k).fits) c.requires.source (omega arith)
    c.requires.count us.ensures c.requires.scalars c.requires.room (rw front at e.contents) (rw front at e.room) e.loan in
    record { all = omega arith; room = reads.0; ahead = reads.1 }
