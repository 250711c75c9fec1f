use Rattle.std.proofs.Common.{ap, append_assoc, arith, length}
use Rattle.legacy_text.proofs.CodeUnits.{encoding, encode_3, encode_4}
use Rattle.legacy_text.proofs.scalar_bytes.put_scalar.Goals as goal

pub returns-then-scalar-lt65536 : goal.returns-then-scalar-lt65536
returns-then-scalar-lt65536 c = grind (arith, encode_3, append_assoc)

pub returns-then-scalar-lt2048 : goal.returns-then-scalar-lt2048
returns-then-scalar-lt2048 c = grind (arith, encoding)

pub returns : goal.returns
returns c = grind (arith, encode_4, append_assoc)

pub put_byte-requires : goal.put_byte-requires
put_byte-requires c = omega (arith, ap length (encode_3 c.args.c (omega arith) (omega arith)))

pub put_byte-requires-then-scalar-lt65536 : goal.put_byte-requires-then-scalar-lt65536
put_byte-requires-then-scalar-lt65536 c = omega (arith, ap length (encode_3 c.args.c (omega arith) (omega arith)))

pub put_byte-requires-then-scalar-lt65536-2 : goal.put_byte-requires-then-scalar-lt65536-2
put_byte-requires-then-scalar-lt65536-2 c = omega (arith, ap length (encode_3 c.args.c (omega arith) (omega arith)))

pub put_byte-requires-then-scalar-lt2048 : goal.put_byte-requires-then-scalar-lt2048
put_byte-requires-then-scalar-lt2048 c = grind (arith, encoding)

pub put_byte-requires-then-scalar-lt2048-2 : goal.put_byte-requires-then-scalar-lt2048-2
put_byte-requires-then-scalar-lt2048-2 c = grind (arith, encoding)

pub put_byte-requires-2 : goal.put_byte-requires-2
put_byte-requires-2 c = omega (arith, ap length (encode_4 c.args.c (omega arith)))

pub put_byte-requires-3 : goal.put_byte-requires-3
put_byte-requires-3 c = omega (arith, ap length (encode_4 c.args.c (omega arith)))

pub put_byte-requires-4 : goal.put_byte-requires-4
put_byte-requires-4 c = omega (arith, ap length (encode_4 c.args.c (omega arith)))

pub put_byte-requires-5 : goal.put_byte-requires-5
put_byte-requires-5 c = omega (arith, ap length (encode_4 c.args.c (omega arith)))
