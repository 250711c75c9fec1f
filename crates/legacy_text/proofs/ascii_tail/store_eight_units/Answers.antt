use Rattle.std.proofs.Common.{◌∙◌, ◌++◌, take, ap, arith}
use Rattle.legacy_text.proofs.AsciiTail.{units_front_of}
use Rattle.legacy_text.proofs.ascii_tail.store_eight_units.Goals as goal

pub returns-clause-stored : goal.returns-clause-stored
returns-clause-stored c =
    let i = c.loop-k.invariant in
    let e = c.store_eight.ensures in
    let same = units_front_of 8 c.loop-k.narrow c.args.units.now c.store_eight.result c.requires.block i.1 e.count (λ j h. i.2 j (omega arith)) e.ascii in
    e.stored ∙ ap (λ front. take c.args.at c.args.dst.now ++ front) same
