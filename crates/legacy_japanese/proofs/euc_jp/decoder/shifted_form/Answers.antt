use Rattle.std.proofs.Common.{arith}
use Rattle.legacy_japanese.proofs.EucJpHeld.{katakana_read, three_read}
use Rattle.legacy_japanese.proofs.euc_jp.decoder.shifted_form.Goals as goal

pub returns-then-second-le223 : goal.returns-then-second-le223
returns-then-second-le223 c fourth =
    katakana_read c.args.tables.now c.args.first c.args.second c.katakana.result c.if-first-eq142.true c.if-second-ge161.true c.if-second-le223.true
    c.katakana.ensures

pub returns-in-Some-pair_scalar : goal.returns-in-Some-pair_scalar
returns-in-Some-pair_scalar c fourth =
    let yields = three_read c.args.tables.now c.args.first c.args.second c.args.third c.in-Some-pair_scalar.scalar in grind (arith, yields)
