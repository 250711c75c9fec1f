use Rattle.{std.proofs.Common.{◌-◌, arith, refl}, legacy_miscellaneous.proofs.Utf16Ahead.unit_after}
use Rattle.legacy_miscellaneous.proofs.utf16.unit_blocks.Units.narrow.Goals as goal

pub loop-at-preserved : goal.loop-at-preserved
loop-at-preserved c = record {
  within = omega arith;
  sixteens = omega arith;
  long = omega arith;
  narrow = λ k h.
      let j = k - c.loop-at.at in
      let e = c.put_narrow.ensures in
      let is = unit_after c.args.self.now.big_endian c.args.src.now c.loop-at.at _ j refl in
      grind (arith, c.loop-at.invariant.narrow k, e.before k, e.narrow j, c.sixteen_units-units.ensures j, is);
}
