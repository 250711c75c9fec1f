use Rattle.std.proofs.Common.{arith}
use Rattle.legacy_text.proofs.Ascii.{joined_ascii, wide_front}
use Rattle.legacy_text.proofs.blocks.wide_ascii_count.Goals as goal

pub returns-then-any-eq0-clause-ascii : goal.returns-then-any-eq0-clause-ascii
returns-then-any-eq0-clause-ascii c = joined_ascii c.args.bytes.now c.requires c.if-any-eq0.true

pub returns-clause-ascii : goal.returns-clause-ascii
returns-clause-ascii c = wide_front c.args.bytes.now c.past_ascii-past.result _ c.requires (omega arith) c.past_ascii-past.ensures (omega arith) (omega arith)
