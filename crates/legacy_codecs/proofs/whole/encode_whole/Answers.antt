use Rattle.std.proofs.Common.{◌∙◌, refl, arith, append-nil, rules}
use Rattle.std.proofs.lemmas.Result.{err_from_is_err_and}
use Rattle.legacy_codecs.proofs.WholeTexts.{bytes_end, bytes_less, bytes_after}
use Rattle.legacy_codecs.proofs.whole.encode_whole.Goals as goal

pub returns-in-InputEmpty-clause-bytes : goal.returns-in-InputEmpty-clause-bytes
returns-in-InputEmpty-clause-bytes g c =
    let call = c.encode_replacing_utf8-answer.ensures.call in
    rw (bytes_end call c.in-InputEmpty.is, append-nil c.extend_from_slice.new.self.items)
    at (bytes_after call _ c.calls.invariant.1 c.in_ok-extend_from_slice.ensures.items)

pub calls-smaller : goal.calls-smaller
calls-smaller g c =
    let call = rw (← c.range_from-rest.ensures.value) at c.encode_replacing_utf8-answer.ensures.call in
    bytes_less call c.calls.invariant.2 c.in-OutputFull.is

pub calls-preserved : goal.calls-preserved
calls-preserved g c =
    let call = rw (← c.range_from-rest.ensures.value) at c.encode_replacing_utf8-answer.ensures.call in (
      c.range_from-rest.utf8,
      bytes_after call _ c.calls.invariant.1 c.in_ok-extend_from_slice.ensures.items,
      omega (arith, c.calls.invariant.2),
      call.codec ∙ c.calls.invariant.3,
    )

pub returns-in-InputEmpty-clause-end : goal.returns-in-InputEmpty-clause-end
returns-in-InputEmpty-clause-end g c = (c.encode_replacing_utf8-answer.ensures.call.input_empty c.in-InputEmpty.is).1 (search rules)

pub calls-init : goal.calls-init
calls-init g c = (c.utf8.text, rw c.new-bytes.ensures.items refl, omega arith, refl)

pub returns-in-InputEmpty-clause-codec : goal.returns-in-InputEmpty-clause-codec
returns-in-InputEmpty-clause-codec g c = c.encode_replacing_utf8-answer.ensures.call.codec ∙ c.calls.invariant.3

pub returns-in_err-extend_from_slice : goal.returns-in_err-extend_from_slice
returns-in_err-extend_from_slice g c = record {
  bytes = rw (err_from_is_err_and c.from_residual.result c.from_residual.ensures.1).1 tt;
  end = rw (err_from_is_err_and c.from_residual.result c.from_residual.ensures.1).1 tt;
  codec = rw (err_from_is_err_and c.from_residual.result c.from_residual.ensures.1).1 tt;
}
