use Rattle.std.proofs.Common.{◌≡◌, ◌≤◌, ◌+◌, length, take, true}
use Rattle.legacy_text.specs.EncodingForm.{total_unit_count}
use Rattle.legacy_base.specs.Encoders.{encoded}
use Rattle.legacy_codecs.proofs.ReferencingCalls.{IsReferencing}
use Rattle.legacy_codecs.proofs.character_references.encode_replacing.Given as goal

-- the call is in progress, and the output holds what was written
abbrev pub invariant-calls : goal.invariant-calls
invariant-calls g l =
    let E = g.E.RawEncoder in
    let S = g.S.Source in
    record {
      calls : IsReferencing (E.state l.fn.encoder) (S.left l.fn.src) l.last (length l.fn.dst) (E.state l.encoder) (S.left l.src)
          (take l.written l.dst) l.replaced;
      within : l.written ≤ length l.dst;
      passed : S.passed l.src + total_unit_count S.form (S.left l.src) ≡ S.passed l.fn.src + total_unit_count S.form (S.left l.fn.src);
    }

-- each call but the last reports a scalar
abbrev pub decreases-calls : goal.decreases-calls
decreases-calls g l = length (encoded (g.E.RawEncoder.state l.encoder) (g.S.Source.left l.src) true)
