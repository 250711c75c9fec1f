use Rattle.std.proofs.{Common.{◌-◌, arith}, lemmas.Bool.Decides.nat_tests}
use Rattle.legacy_single_byte.proofs.EncoderRuns.{code_at}
use Rattle.legacy_single_byte.proofs.single_byte.encoder.SingleByteEncoderPlainCodes.code_of.Goals as goal

pub returns-else-scalar-lt128 : goal.returns-else-scalar-lt128
returns-else-scalar-lt128 c =
    let e = c.args.self.now in
    grind (arith, nat_tests, e.is_run (c.args.c - e.run_bmp_offset), code_at e.table.now c.args.c)
