use Rattle.std.proofs.Common.{◌∙◌, ◌++◌, ◌∷◌, [], arith, ap}
use Rattle.legacy_codecs.specs.declared.malformed.MalformedSequence.{MalformedSequence}
use Rattle.legacy_base.proofs.Enough.{total_need-answer}
use Rattle.legacy_codecs.proofs.{MalformedSequences.{finds_start, finds_step, finds_stop, sequence_is}, Replaced.malformed_less}
use Rattle.legacy_codecs.proofs.malformed.malformed_sequences.Goals as goal

pub calls-init : goal.calls-init
calls-init g c = grind (arith, total_need-answer, finds_start)

pub returns-in_default-answer-clause-found : goal.returns-in_default-answer-clause-found
returns-in_default-answer-clause-found g c =
    let call = c.decode_to_utf8_raw-answer.ensures.call in
    let free = rw c.as_mut_slice.ensures.len at call.1 in
    (finds_stop c.calls.invariant free c.in_default-answer.not-Malformed).0

pub returns-in_default-answer-clause-end : goal.returns-in_default-answer-clause-end
returns-in_default-answer-clause-end g c =
    let call = c.decode_to_utf8_raw-answer.ensures.call in
    let free = rw c.as_mut_slice.ensures.len at call.1 in
    (finds_stop c.calls.invariant free c.in_default-answer.not-Malformed).1

pub calls-smaller : goal.calls-smaller
calls-smaller g c =
    let call = c.decode_to_utf8_raw-answer.ensures.call in
    let one = rw (c.as_mut_slice.ensures.len, c.in-Malformed.is) at call.1 in
    rw c.rest_of-rest.ensures (malformed_less one)

pub calls-preserved : goal.calls-preserved
calls-preserved g c =
    let call = c.decode_to_utf8_raw-answer.ensures.call in
    let one = rw (c.as_mut_slice.ensures.len, c.in-Malformed.is) at call.1 in
    let step = finds_step c.calls.invariant one in
    let sequence = sequence_is c.sequence_at.result _ _ c.sequence_at.ensures.place c.sequence_at.ensures.length in
    let items = c.in-Ok-push.ensures.items ∙ ap (λ (s : MalformedSequence). c.calls.found.items ++ s ∷ []) sequence in
    rw (c.rest_of-rest.ensures, items) step
