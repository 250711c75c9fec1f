use Rattle.std.proofs.Common.{sym, refl}
use Rattle.legacy_encodings.proofs.registry.Coders.encode.Goals as goal

pub returns-in-Ok : goal.returns-in-Ok
returns-in-Ok c =
    let found = c.in_ok-encoding in
    let made = rw (c.codec.ensures, c.single_byte-table.ensures) at c.new-encoder.ensures in
    record {
      state = _;
      encoder = record { encoding = found.encoding; labelled = found.ensures.0; read = found.ensures.1; made = sym made };
      encodes = c.in-Ok.ensures.0;
      of = c.output_of.ensures;
      told = c.in-Ok.ensures.1;
    }

pub returns-in-Err : goal.returns-in-Err
returns-in-Err c =
    let found = c.in_ok-encoding in
    (_, record { encoding = found.encoding; labelled = found.ensures.0; read = found.ensures.1; made = refl })
