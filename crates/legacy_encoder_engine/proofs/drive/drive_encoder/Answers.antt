use Rattle.std.proofs.{Common.{◌≡◌, ◌∙◌, length, false, IsTrue, refl, sym, ap, arith}, lemmas.List.length-take-le}
use Rattle.legacy_base.specs.Encoders.{is_pending}
use Rattle.legacy_text.proofs.Texts.{first_cons, none_left}
use Rattle.legacy_encoder_engine.specs.Moves.{is_escape}
use Rattle.legacy_encoder_engine.proofs.CallUnderWay.{underway_start, underway_read, underway_escape, call_full_scalar, call_unmappable}
use Rattle.legacy_encoder_engine.proofs.CallUnderWay.{call_done, first_units}
use Rattle.std.proofs.lemmas.Grind.{common_steps}
use Rattle.legacy_encoder_engine.proofs.drive.drive_encoder.Goals as goal

pub loop-c-init : goal.loop-c-init
loop-c-init g c = (
  underway_start (g.E.EncoderMoves.state c.args.encoder.now) (g.S.Source.left c.args.src.now) c.args.last
      (length c.args.dst.now),
  omega arith,
  refl,
)

pub returns-then-dst-written : goal.returns-then-dst-written
returns-then-dst-written g c =
    let a = c.read_ahead-written in
    let cons = first_cons (g.S.Source.left a.new.src) c.in-Some.c c.in-Some.ensures in
    let long = length-take-le a.result a.new.dst (omega (arith, a.ensures.end)) in
    let under = (rw c.loop-c.auto.dst at a.ensures.keeps).keeps _ _ _ c.loop-c.invariant.0 in
    record {
      call = call_full_scalar under c.need.ensures.serves cons (omega (arith, long, c.need.ensures.bytes));
      written = omega arith;
      passed = c.read_ahead-written.ensures.units ∙ c.loop-c.invariant.2;
    }

pub returns-in-Unmappable : goal.returns-in-Unmappable
returns-in-Unmappable g c =
    let a = c.read_ahead-written in
    let long = length-take-le a.result a.new.dst (omega (arith, a.ensures.end)) in
    let under = (rw c.loop-c.auto.dst at a.ensures.keeps).keeps _ _ _ c.loop-c.invariant.0 in
    let cons = first_cons (g.S.Source.left a.new.src) c.in-Some.c c.in-Some.ensures in
    record {
      call = rw c.advance.ensures.left
          (call_unmappable under c.need.ensures.serves cons (rw c.in-Unmappable.is at c.next-step.ensures) (omega (arith, long, c.need.ensures.bytes)));
      written = omega arith;
      passed = rw c.advance.ensures.left (omega (
        arith,
        rw cons at c.advance.ensures.passed,
        first_units g.S.Source.form (g.S.Source.left a.new.src) c.in-Some.c cons,
        a.ensures.units,
        c.loop-c.invariant.2,
      ));
    }

pub loop-c-preserved : goal.loop-c-preserved
loop-c-preserved g c =
    let a = c.read_ahead-written in
    let long = length-take-le a.result a.new.dst (omega (arith, a.ensures.end)) in
    let under = (rw c.loop-c.auto.dst at a.ensures.keeps).keeps _ _ _ c.loop-c.invariant.0 in
    let cons = first_cons (g.S.Source.left a.new.src) c.in-Some.c c.in-Some.ensures in (
      rw (c.advance-in-loop-c.ensures.left, c.put_move-written.ensures.bytes)
          (underway_read under c.need.ensures.serves cons c.next-step.ensures
          (omega (arith, long, c.need.ensures.bytes)) (grind (arith, c.in_default-step-2.not-Escape))
          (grind (arith, c.in_default-step.not-Unmappable))),
      omega arith,
      rw c.advance-in-loop-c.ensures.left (omega (
        arith,
        rw cons at c.advance-in-loop-c.ensures.passed,
        first_units g.S.Source.form (g.S.Source.left a.new.src) c.in-Some.c cons,
        a.ensures.units,
        c.loop-c.invariant.2,
      )),
    )

pub loop-c-preserved-in-Escape : goal.loop-c-preserved-in-Escape
loop-c-preserved-in-Escape g c =
    let a = c.read_ahead-written in
    let long = length-take-le a.result a.new.dst (omega (arith, a.ensures.end)) in
    let under = (rw c.loop-c.auto.dst at a.ensures.keeps).keeps _ _ _ c.loop-c.invariant.0 in
    let cons = first_cons (g.S.Source.left a.new.src) c.in-Some.c c.in-Some.ensures in (
      rw c.put_move-written.ensures.bytes
          (underway_escape under c.need.ensures.serves cons c.next-step.ensures
          (omega (arith, long, c.need.ensures.bytes)) (ap is_escape c.in-Escape.is)),
      omega arith,
      omega (arith, a.ensures.units, c.loop-c.invariant.2),
    )

pub put_move-written-requires : goal.put_move-written-requires
put_move-written-requires g c = omega (arith, c.next-step.ensures.fits, c.need.ensures.bytes)

pub advance-requires : goal.advance-requires
advance-requires g c = grind (arith, common_steps)

pub advance-requires-in-loop-c : goal.advance-requires-in-loop-c
advance-requires-in-loop-c g c = grind (arith, common_steps)

pub read_ahead-written-requires : goal.read_ahead-written-requires
read_ahead-written-requires g c = c.loop-c.invariant.1

pub overflow_sub-dst : goal.overflow_sub-dst
overflow_sub-dst g c = omega (arith, c.read_ahead-written.ensures.end)

pub loop-c-smaller : goal.loop-c-smaller
loop-c-smaller g c = grind (arith, common_steps)

pub write_end-requires-clause-pending : goal.write_end-requires-clause-pending
write_end-requires-clause-pending g c = sym c.is_pending.ensures.is ∙ c.if-is_pending.true

pub write_end-requires-clause-serves : goal.write_end-requires-clause-serves
write_end-requires-clause-serves g c = c.is_pending.ensures.serves

pub write_end-requires-clause-within : goal.write_end-requires-clause-within
write_end-requires-clause-within g c = omega (arith, c.read_ahead-written.ensures.end)

pub returns-then-last : goal.returns-then-last
returns-then-last g c =
    let a = c.read_ahead-written in
    let under = (rw c.loop-c.auto.dst at a.ensures.keeps).keeps _ _ _ c.loop-c.invariant.0 in
    let none = none_left (g.S.Source.left a.new.src) (sym c.in_default.is ∙ c.peek.ensures) in
    let same : length a.new.dst ≡ length c.args.dst.now = omega (arith, a.auto.dst, c.loop-c.auto.dst) in
    record {
      call = rw (none, c.if-last.true, ← same) (c.write_end.ensures.call _ _ (rw (none, c.if-last.true, ← same) at under));
      written = c.write_end.ensures.written;
      passed = a.ensures.units ∙ c.loop-c.invariant.2;
    }

pub returns : goal.returns
returns g c =
    let a = c.read_ahead-written in
    let under = (rw c.loop-c.auto.dst at a.ensures.keeps).keeps _ _ _ c.loop-c.invariant.0 in
    let no_end : IsTrue c.args.last → is_pending (g.E.EncoderMoves.state c.loop-c.encoder) ≡ false = grind (arith, c.else-is_pending.branch) in
    record {
      call = call_done under c.is_pending.ensures.serves (none_left (g.S.Source.left a.new.src) (sym c.in_default.is ∙ c.peek.ensures)) no_end;
      written = omega arith;
      passed = a.ensures.units ∙ c.loop-c.invariant.2;
    }
