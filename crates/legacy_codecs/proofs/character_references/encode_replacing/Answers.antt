use Rattle.std.proofs.Common.{◌≡◌, ◌∙◌, ℕ, ◌+◌, ◌≤◌, ◌++◌, length, take, is_some, sym, ap, arith, append_assoc, inl, inr}
use Rattle.std.proofs.lemmas.List.{length-take, length-take-le}
use Rattle.legacy_base.specs.declared.results.EncoderResult.TheVariants.{OutputFull}
use Rattle.legacy_codecs.specs.References.{reference}
use Rattle.legacy_codecs.specs.declared.results.CoderResult.TheVariants as coder
use Rattle.legacy_codecs.proofs.ReferencingCalls.{referencing_start, referencing_step, referencing_less, referencing_end}
use Rattle.legacy_codecs.proofs.ReferencingCalls.{referencing_done, referencing_stops, nothing_reported}
use Rattle.legacy_codecs.proofs.ReferencingCalls.{nothing_left}
use Rattle.legacy_codecs.proofs.character_references.encode_replacing.Goals as goal

pub calls-init : goal.calls-init
calls-init g c = grind (arith, referencing_start)

pub encode_from-answer-requires : goal.encode_from-answer-requires
encode_from-answer-requires g c = omega (arith, c.calls-test.true)

pub put_reference-written-requires : goal.put_reference-written-requires
put_reference-written-requires g c = c.encode_from-answer.ensures.room

pub returns-in-InputEmpty : goal.returns-in-InputEmpty
returns-in-InputEmpty g c =
    let made = c.encode_from-answer.ensures in
    let end = referencing_end c.calls.invariant.calls (omega (arith, length-take {A = ℕ})) coder.InputEmpty (rw c.in-InputEmpty.is at made.call.1) in
    record { call = rw made.call.2 end; written = omega (arith, made.room); passed = made.passed ∙ c.calls.invariant.passed }

pub returns-in-OutputFull : goal.returns-in-OutputFull
returns-in-OutputFull g c =
    let made = c.encode_from-answer.ensures in
    let end = referencing_end c.calls.invariant.calls (omega (arith, length-take {A = ℕ})) coder.OutputFull (rw c.in-OutputFull.is at made.call.1) in
    record { call = rw made.call.2 end; written = omega (arith, made.room); passed = made.passed ∙ c.calls.invariant.passed }

pub calls-smaller : goal.calls-smaller
calls-smaller g c =
    let call = c.encode_from-answer.ensures.call in
    referencing_less c.calls.invariant.calls (omega (arith, length-take {A = ℕ})) c.in-Unmappable.c
    (rw c.in-Unmappable.is at call.1)

pub calls-preserved : goal.calls-preserved
calls-preserved g c =
    let call = c.encode_from-answer.ensures.call in
    let long = length-take-le c.calls.written c.calls.dst c.calls.invariant.within in
    let one = rw c.in-Unmappable.is at call.1 in
    let p = c.put_reference-written in
    let r = reference c.in-Unmappable.c in
    let all = p.ensures.bytes ∙ ap (λ l. l ++ r) call.2 ∙ append_assoc (take c.calls.written c.calls.dst) call.0 r in
    let within = ap length (sym all) ∙ length-take-le p.result p.new.dst p.ensures.within in
    let fits : length (take c.calls.written c.calls.dst ++ (call.0 ++ r)) ≤ length c.args.dst.now =
    omega (arith, within, p.ensures.within, p.auto.dst, c.encode_from-answer.auto.dst, c.calls.auto.dst) in
    let spare : length (take c.calls.written c.calls.dst) + length call.0 + 10 ≤ length c.args.dst.now =
    omega (arith, long, call.3, c.encode_from-answer.ensures.room, c.encode_from-answer.auto.dst, c.calls.auto.dst) in
    record {
      calls = rw all (referencing_step c.calls.invariant.calls (omega (arith, long, c.calls.auto.dst)) c.in-Unmappable.c fits spare one);
      within = p.ensures.within;
      passed = c.encode_from-answer.ensures.passed ∙ c.calls.invariant.passed;
    }

-- a reference has no room

pub returns-then-is_some-clause-call : goal.returns-then-is_some-clause-call
returns-then-is_some-clause-call g c =
    let long = length-take-le c.calls.written c.calls.dst c.calls.invariant.within in
    let some = sym (ap is_some c.peek.ensures) ∙ sym c.is_some.ensures ∙ c.if-is_some.true in
    referencing_stops c.calls.invariant.calls (omega (arith, long, c.calls.auto.dst, c.calls-test.false)) some

pub returns-in-InputEmpty-0₀-clause-call : goal.returns-in-InputEmpty-0₀-clause-call
returns-in-InputEmpty-0₀-clause-call g c =
    let long = length-take-le c.calls.written c.calls.dst c.calls.invariant.within in
    let one = rw c.in-InputEmpty-0₀.is at c.step.ensures.call in
    referencing_done c.calls.invariant.calls (omega (arith, long, c.calls.auto.dst)) coder.InputEmpty one

pub returns-in-OutputFull-0₀ : goal.returns-in-OutputFull-0₀
returns-in-OutputFull-0₀ g c =
    let long = length-take-le c.calls.written c.calls.dst c.calls.invariant.within in
    let none = nothing_left (g.S.Source.left c.calls.src) (sym (ap is_some c.peek.ensures) ∙ sym c.is_some.ensures ∙ c.if-is_some.false) in
    let step = rw none at c.step.ensures.call in
    let full =
    elim c.in-OutputFull-0₀.is as (λ _. c.step.result.0 ≡ OutputFull) [ inl e ↦ e | inr w ↦ absurd (nothing_reported (rw w.1 at step)) ] in
    let one = rw full at c.step.ensures.call in
    record {
      call = referencing_done c.calls.invariant.calls (omega (arith, long, c.calls.auto.dst)) coder.OutputFull one;
      written = c.calls.invariant.within;
      passed = c.step.ensures.passed ∙ c.calls.invariant.passed;
    }
