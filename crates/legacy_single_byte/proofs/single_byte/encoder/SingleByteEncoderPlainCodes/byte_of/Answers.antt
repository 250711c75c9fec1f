use Rattle.std.proofs.{Common.{◌-◌, arith}, lemmas.Bool.Decides.nat_tests}
use Rattle.legacy_single_byte.proofs.EncoderRuns.{code_at, code_ascii, malformed_at}
use Rattle.legacy_single_byte.proofs.single_byte.encoder.SingleByteEncoderPlainCodes.byte_of.Goals as goal

pub returns : goal.returns
returns c = λ known.
    let e = c.args.self.now in
    let unit = c.args.unit in
    grind (arith, nat_tests, code_ascii, e.is_run (unit - e.run_bmp_offset), code_at e.table.now unit, malformed_at e.table.now unit)
