use Rattle.legacy_miscellaneous.proofs.Utf16Vectors.{little, big}
use Rattle.legacy_miscellaneous.proofs.utf16.vectors.sixteen_units.Goals as goal

pub returns-then-not-big_endian : goal.returns-then-not-big_endian
returns-then-not-big_endian c = little 16 _ c.args.src.now c.if-not-big_endian.true c.requires (λ i. (c.type_inv.src i).fits)

pub returns : goal.returns
returns c = big 16 _ c.args.src.now c.if-not-big_endian.false c.requires (λ i. (c.type_inv.src i).fits)
