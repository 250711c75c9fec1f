use Rattle.legacy_japanese.proofs.ShiftJisPlaces.{katakana_form, own_read}
use Rattle.legacy_japanese.proofs.shift_jis.decoder.single_form.Goals as goal

pub returns-then-byte-le223 : goal.returns-then-byte-le223
returns-then-byte-le223 c tables second third fourth =
    (katakana_form tables c.args.byte c.katakana.result c.if-byte-ge161.true c.if-byte-le223.true c.katakana.ensures).1

pub returns-then-byte-eq128 : goal.returns-then-byte-eq128
returns-then-byte-eq128 c tables second third fourth = own_read tables c.args.byte c.if-byte-eq128.true
