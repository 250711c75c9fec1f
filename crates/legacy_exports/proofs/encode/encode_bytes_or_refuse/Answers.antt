use Rattle.std.proofs.Common.{inr, refl}
use Rattle.legacy_exports.proofs.encode.encode_bytes_or_refuse.Goals as goal

-- the source is no text
pub returns-in_default-clause-bytes : goal.returns-in_default-clause-bytes
returns-in_default-clause-bytes g c = record {
  either = inr refl;
  taken = λ taken utf8. absurd (c.in_default.ensures.cases.0 utf8);
  refused = λ refused. refl;
  malformed = λ malformed. refl;
}

pub returns-in_default-clause-unchanged : goal.returns-in_default-clause-unchanged
returns-in_default-clause-unchanged g c refused = refl

-- the text has the bytes of the source
pub returns-clause-bytes : goal.returns-clause-bytes
returns-clause-bytes g c =
    let text = c.in-Ok.ensures.cases in
    let bytes = rw (c.new-reading.ensures, text.0) at c.encode_or_refuse.ensures.bytes in
    record {
      either = bytes.either;
      taken = λ taken utf8. bytes.taken taken tt;
      refused = bytes.refused;
      malformed = λ malformed. absurd (malformed text.1);
    }

pub returns-clause-unchanged : goal.returns-clause-unchanged
returns-clause-unchanged g c refused = c.encode_or_refuse.ensures.unchanged (λ taken. refused (taken, c.in-Ok.ensures.cases.1))
