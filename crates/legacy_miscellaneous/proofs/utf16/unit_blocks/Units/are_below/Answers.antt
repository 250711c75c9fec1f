use Rattle.std.proofs.Common.{◌-◌, ◌*◌, arith}
use Rattle.legacy_miscellaneous.proofs.{Utf16Ahead.unit_after, Utf16Vectors.both_below}
use Rattle.legacy_miscellaneous.proofs.utf16.unit_blocks.Units.are_below.Goals as goal

pub loop-group-preserved : goal.loop-group-preserved
loop-group-preserved c = record {
  within = omega arith;
  below = λ n below k h.
      let both = both_below n c.loop-group.greatest c.eight_units.result (omega arith) below in
      let j = k - 8 * c.loop-group.group in
      let is = unit_after c.args.self.now.big_endian c.args.src.now (8 * c.loop-group.group) (16 * c.loop-group.group) j (omega arith) in
      grind (arith, c.loop-group.invariant.below n both.0 k, c.eight_units.ensures j, is, both.1 j);
}
