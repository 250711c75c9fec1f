use Rattle.std.proofs.Common.{arith, ◌∙◌}
use Rattle.legacy_codecs.specs.declared.results.CoderResult.TheVariants.{InputEmpty, OutputFull}
use Rattle.legacy_codecs.proofs.Replacements.{replaces_start, replaces_end, replaces_step, replaces_fits, replaces_less}
use Rattle.legacy_codecs.proofs.replacing.decode_replacing.Goals as goal

pub calls-init : goal.calls-init
calls-init g c = grind (arith, replaces_start)

pub returns-in-InputEmpty-clause-call : goal.returns-in-InputEmpty-clause-call
returns-in-InputEmpty-clause-call g c =
    let call = c.step-answer.ensures.call in
    replaces_end c.calls.invariant.replaces call.2 InputEmpty (rw (c.rest_of.ensures, c.in-InputEmpty.is) at call.1)

pub returns-in-OutputFull-clause-call : goal.returns-in-OutputFull-clause-call
returns-in-OutputFull-clause-call g c =
    let call = c.step-answer.ensures.call in
    replaces_end c.calls.invariant.replaces call.2 OutputFull (rw (c.rest_of.ensures, c.in-OutputFull.is) at call.1)

pub put_replacement-requires : goal.put_replacement-requires
put_replacement-requires g c =
    let call = c.step-answer.ensures.call in
    replaces_fits c.calls.invariant.replaces call.2 (rw (c.rest_of.ensures, c.in-Malformed.is) at call.1) _ c.step-answer.ensures.room

pub calls-smaller : goal.calls-smaller
calls-smaller g c =
    let call = c.step-answer.ensures.call in
    replaces_less c.calls.invariant.replaces call.2 (rw (c.rest_of.ensures, c.in-Malformed.is) at call.1)

pub calls-preserved : goal.calls-preserved
calls-preserved g c =
    let call = c.step-answer.ensures.call in
    let one = rw (c.rest_of.ensures, c.in-Malformed.is) at call.1 in
    record {
      replaces =
          replaces_step c.calls.invariant.replaces call.2 one c.step-answer.ensures.room c.put_replacement.ensures.room c.put_replacement.ensures.contents;
      loan = c.put_replacement.ensures.loan ∙ c.step-answer.ensures.loan ∙ c.calls.invariant.loan;
    }
