use Rattle.std.proofs.{Common.{◌≡◌, ◌∙◌, ◌+◌, ◌≤◌, ◌++◌, length, take, get_or, refl, arith}, lemmas.Bool.and_parts, lemmas.List.length-take-le}
use Rattle.legacy_encoder_engine.specs.WrittenUnits.{two_bytes}
use Rattle.legacy_encoder_engine.proofs.WrittenUnits.{kept, stays, units_more}
use Rattle.std.proofs.lemmas.Grind.{common_steps}
use Rattle.legacy_encoder_engine.proofs.read_ahead.put_ten.Goals as goal

pub loop-k-preserved : goal.loop-k-preserved
loop-k-preserved g c =
    let i = c.loop-k.invariant in
    let start = c.args.start in
    let at = c.loop-k.end in
    let old = c.loop-k.dst in
    let new = c.put_two.new.dst in
    let both = c.unit_bytes-both.result.0 in
    let count = c.unit_bytes-both.result.1 in
    let few = c.unit_bytes-both.ensures.count in
    let fits : at + 2 ≤ length old = omega (arith, i.0, i.2, c.loop-k-test.true, c.requires.room) in
    let long : length (take at old) ≡ at = length-take-le at old (omega (arith, fits)) in
    let put : take (at + count) new ≡ take at old ++ take count (two_bytes both) =
    kept at count (take at old) new (two_bytes both) long few.1 c.put_two.ensures in (
      omega (arith, c.loop-k-test.true),
      omega (arith, i.1, few.0),
      omega (arith, i.2, few.1),
      stays start at old new (take count (two_bytes both)) (at + count) (omega (arith, i.1)) (omega (arith, fits)) (omega arith) put ∙ i.3,
      (λ e.
          let flags = and_parts _ _ e in
          let unit = get_or c.args.units c.loop-k.k 0 in
          units_more _ _ c.requires.serves c.args.units _ _ _ c.loop-k.k unit both count (i.4 flags.0) (omega (arith, c.loop-k-test.true)) refl
          (c.unit_bytes-both.ensures.code flags.1) (omega (arith, long, c.requires.fits unit, i.0, i.2, c.loop-k-test.true, c.requires.room)) put),
    )

pub loop-k-init : goal.loop-k-init
loop-k-init g c = grind (arith, common_steps)

pub returns-then-is_known : goal.returns-then-is_known
returns-then-is_known g c = grind (arith, common_steps)

pub returns-else-is_known : goal.returns-else-is_known
returns-else-is_known g c = grind (arith, common_steps)
