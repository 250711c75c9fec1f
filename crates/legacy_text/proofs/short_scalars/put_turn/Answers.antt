use Rattle.std.proofs.{Common.{◌≡◌, ◌∙◌, ◌+◌, ◌<◌, length, take, ap, arith, slice_set}, lemmas.{Bool.{ltb-true, and_parts}, List.{take-set-le, take_more_set}}}
use Rattle.legacy_text.proofs.ShortScalars.{scalars_one, scalars_append}
use Rattle.legacy_text.proofs.short_scalars.put_turn.Goals as goal

pub loop-k-preserved : goal.loop-k-preserved
loop-k-preserved g c =
    let i = c.loop-k.invariant in
    let s = c.short_scalar-scalar in
    let b = c.byte_of-byte in
    let at = c.args.at + c.loop-k.k in
    let inside : at < length c.loop-k.dst = omega (arith, c.loop-k-test.true, c.requires.room) in
    let place : c.args.at + (c.loop-k.k + 1) ≡ at + 1 = omega arith in (
      omega (arith, c.loop-k-test.true),
      omega (arith, i.1, s.ensures.few),
      take-set-le c.args.at c.loop-k.dst at b.result.0 (omega arith) ∙ i.2,
      (λ e.
          let flags = and_parts _ _ e in
          let front = and_parts _ _ flags.0 in
          let before = i.3 front.0 in
          let read = s.ensures.scalar before.is_text (ltb-true _ _ front.1) in
          let stored = ap (λ n. take n (slice_set c.loop-k.dst at b.result.0)) place ∙ take_more_set c.loop-k.dst at b.result.0 inside in
          scalars_append before (scalars_one b.result.0 read (b.ensures flags.1).1 stored)),
    )
