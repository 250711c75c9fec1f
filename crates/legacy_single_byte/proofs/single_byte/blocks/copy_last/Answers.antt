use Rattle.std.proofs.{Common.arith, lemmas.List.length-take-le}
use Rattle.legacy_single_byte.proofs.single_byte.blocks.copy_last.Goals as goal

pub copy_from_slice-requires : goal.copy_from_slice-requires
copy_from_slice-requires c = omega (arith, c.if-src-eq64.true, length-take-le 64 c.args.text.now c.requires.room)
