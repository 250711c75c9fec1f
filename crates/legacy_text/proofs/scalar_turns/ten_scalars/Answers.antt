use Rattle.std.proofs.Common.{◌∙◌, ℕ, ◌+◌, ◌-◌, ◌%◌, ◌<◌, length, take, get_or, arith, w32}
use Rattle.std.proofs.lemmas.{Bool.Decides.nat_tests, Nat.and_le_l, List.{length-set, take_more_set}}
use Rattle.{std.specs.Int.trailing_zeros, legacy_text.{specs.ScalarTurns.IsUnitAt, proofs.ScalarTurns.{stands_first, stands_more}}}
use Rattle.legacy_text.proofs.scalar_turns.ten_scalars.Goals as goal

pub loop-k-init : goal.loop-k-init
loop-k-init c = grind (arith, stands_first c.args.bytes.now c.args.start c.starts_at-bits.result)

pub loop-k-preserved : goal.loop-k-preserved
loop-k-preserved c =
    let i = c.loop-k.invariant in
    let k = c.loop-k.k in
    let bits = c.loop-k.bits in
    let all = c.put_units-2.new.all in
    let unit = get_or all (trailing_zeros w32 bits) 0 in
    let made : (j : ℕ) → j < 32 → IsUnitAt c.args.bytes.now (c.args.start + j) (get_or all j 0) =
    λ j h. grind (arith, nat_tests, c.put_units.ensures.units j, c.put_units-2.ensures.before j, c.put_units-2.ensures.units (j - 16)) in
    let less = and_le_l bits ((bits + 4294967295) % 4294967296) in
    let within : k < length c.loop-k.units = omega (arith, c.loop-k-test.true, i.1) in (
      omega (arith, c.loop-k-test.true),
      length-set c.loop-k.units k unit ∙ i.1,
      omega (arith, i.2, less),
      (λ some_rest.
          let some : 0 < bits = omega (arith, some_rest, less) in
          rw (take_more_set c.loop-k.units k unit within)
          (stands_more c.args.bytes.now c.args.start (take k c.loop-k.units) bits unit (omega (arith, c.if-bytes-start-lt34.false, c.requires.place))
          some i.2 some_rest (λ j h here. rw here (made (trailing_zeros w32 bits) (rw here at h))) (i.3 some))),
    )

pub returns-then-bytes-start-lt34 : goal.returns-then-bytes-start-lt34
returns-then-bytes-start-lt34 c = tt

pub returns-then-bits-eq0 : goal.returns-then-bits-eq0
returns-then-bits-eq0 c = tt
