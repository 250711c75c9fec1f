use Rattle.legacy_chinese.proofs.Gb18030Held.{euro_read}
use Rattle.legacy_chinese.proofs.gb18030.four_byte_blocks.Gb18030LaneCodec.form_at.Goals as goal

pub returns-then-first-eq128 : goal.returns-then-first-eq128
returns-then-first-eq128 c = euro_read c.args.tables.now c.args.first c.if-first-eq128.true
