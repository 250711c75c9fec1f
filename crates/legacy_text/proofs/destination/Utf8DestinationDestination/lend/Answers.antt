use Rattle.std.proofs.{Common.{◌≡◌, ℕ, ◌-◌, List, length, take, refl, arith}, lemmas.List.{length-take-le, length-drop, take_rest}}
use Rattle.legacy_text.proofs.Ascii.{filled}
use Rattle.legacy_text.proofs.destination.Utf8DestinationDestination.lend.Goals as goal

pub returns : goal.returns
returns g c =
    let xs : List ℕ = c.args.self.now.buffer.now in
    let a : ℕ = c.args.self.now.filled in
    let new : List ℕ = c.fill-count.new.buffer in
    let w : ℕ = c.fill-count.result.1 in
    let within = c.args.self.now.in_range in
    let e = rw (take_rest xs a, length-drop a xs) at c.fill-count.ensures in
    let long : length new ≡ length xs - a = grind (arith, c.fill-count.auto.buffer, take_rest, length-drop) in (
      refl,
      refl,
      (take w new, e.fills, filled a w xs new within long (omega (arith, long, e.written)), grind (arith, long, e.written, length-take-le w new, within)),
    )
