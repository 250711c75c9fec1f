use Rattle.std.proofs.Common.{sym}
use Rattle.legacy_japanese.proofs.FoldedPointers.{no-katakana}
use Rattle.legacy_japanese.proofs.iso_2022_jp.encoder.pointer.Goals as goal

pub returns-then-c-gt65535-clause-value : goal.returns-then-c-gt65535-clause-value
returns-then-c-gt65535-clause-value c = sym (no-katakana c.args.tables.now _ c.args.c c.if-c-gt65535.true)
