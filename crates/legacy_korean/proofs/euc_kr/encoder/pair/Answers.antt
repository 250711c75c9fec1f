use Rattle.std.proofs.Common.{rules, arith, refl}
use Rattle.legacy_tables.{specs.Pointers.every_pointer, proofs.Accepted.euc_kr-below}
use Rattle.legacy_encoder_engine.proofs.AbsentPointers.{past-bmp}
use Rattle.legacy_korean.proofs.euc_kr.encoder.pair.Goals as goal

pub returns-then-c-gt65535 : goal.returns-then-c-gt65535
returns-then-c-gt65535 c =
    let tables = c.args.tables.now in
    let past = c.if-c-gt65535.true in
    rw (past-bmp every_pointer _ (euc_kr-below tables.flat tables.accepted) c.args.c (omega (arith, past))) refl

pub returns : goal.returns
returns c = search rules
