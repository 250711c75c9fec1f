use Rattle.std.proofs.Common.{refl}
use Rattle.legacy_tables.specs.Pointers.{is_jis0208_pointer}
use Rattle.legacy_japanese.proofs.FoldedPointers.{no-pointer}
use Rattle.legacy_japanese.proofs.euc_jp.encoder.pair.Goals as goal

pub returns-then-c-gt65535 : goal.returns-then-c-gt65535
returns-then-c-gt65535 c = rw (no-pointer is_jis0208_pointer c.args.tables.now c.args.c c.if-c-gt65535.true) refl
