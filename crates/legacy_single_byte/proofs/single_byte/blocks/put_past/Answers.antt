use Rattle.std.proofs.Common.{◌∷◌, [], arith}
use Rattle.legacy_decoder_engine.proofs.WrittenReads.{short, writes_put}
use Rattle.legacy_single_byte.proofs.single_byte.blocks.put_past.Goals as goal

pub returns-in-Some-clause-some : goal.returns-in-Some-clause-some
returns-in-Some-clause-some g c = λ yes.
    let T = g.T.Destination in
    let single = c.in-Some.ensures.single in
    let put = c.put_entry.ensures in (
      writes_put T (c.args.byte ∷ []) c.in-Some.scalar single.1 put.contents put.room put.loan,
      omega (arith, short T.form c.in-Some.scalar single.0, put.room),
    )
