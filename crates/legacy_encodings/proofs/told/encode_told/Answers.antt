use Rattle.std.proofs.Common.{◌∙◌, refl, arith, append-nil, rules}
use Rattle.std.proofs.Math.Bool.{or-false}
use Rattle.std.proofs.lemmas.Result.{err_from_is_err_and}
use Rattle.legacy_codecs.proofs.WholeTexts.{bytes_end, bytes_less, bytes_after}
use Rattle.legacy_encodings.proofs.Replaced.{unmappable_after, unmappable_end}
use Rattle.legacy_encodings.proofs.told.encode_told.Goals as goal

pub returns-in-InputEmpty-clause-bytes : goal.returns-in-InputEmpty-clause-bytes
returns-in-InputEmpty-clause-bytes g c =
    let call = c.encode_replacing_utf8-answer.ensures.call in
    rw (bytes_end call c.in-InputEmpty.is, append-nil c.extend_from_slice.new.self.items)
    at (bytes_after call _ c.calls.invariant.1 c.in_ok-extend_from_slice.ensures.items)

pub returns-in-InputEmpty-clause-told : goal.returns-in-InputEmpty-clause-told
returns-in-InputEmpty-clause-told g c =
    let call = c.encode_replacing_utf8-answer.ensures.call in
    rw (unmappable_end call c.in-InputEmpty.is, or-false _) at (unmappable_after call _ c.calls.invariant.3)

pub calls-smaller : goal.calls-smaller
calls-smaller g c =
    let call = rw (← c.range_from-rest.ensures.value) at c.encode_replacing_utf8-answer.ensures.call in
    bytes_less call c.calls.invariant.2 c.in-OutputFull.is

pub calls-preserved : goal.calls-preserved
calls-preserved g c =
    let call = rw (← c.range_from-rest.ensures.value) at c.encode_replacing_utf8-answer.ensures.call in (
      c.range_from-rest.utf8,
      bytes_after call _ c.calls.invariant.1 c.in_ok-extend_from_slice.ensures.items,
      omega (arith, c.calls.invariant.2),
      unmappable_after call _ c.calls.invariant.3,
    )

pub calls-init : goal.calls-init
calls-init g c = (c.utf8.text, rw c.new-bytes.ensures.items refl, omega arith, refl)

pub returns-in_err-extend_from_slice : goal.returns-in_err-extend_from_slice
returns-in_err-extend_from_slice g c = record {
  bytes = rw (err_from_is_err_and c.from_residual.result c.from_residual.ensures.1).1 tt;
  told = rw (err_from_is_err_and c.from_residual.result c.from_residual.ensures.1).1 tt;
}
