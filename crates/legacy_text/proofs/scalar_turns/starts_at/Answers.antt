use Rattle.std.proofs.{Common.arith, lemmas.Simd.length-chunk}
use Rattle.legacy_text.proofs.ScalarTurns.{mask_from-lt}
use Rattle.legacy_text.proofs.scalar_turns.starts_at.Goals as goal

pub overflow_cast-past : goal.overflow_cast-past
overflow_cast-past c = record { fits = mask_from-lt 128 32 _ (omega arith) (length-chunk c.args.place 32 c.args.bytes.now c.requires) }

pub overflow_cast-leads : goal.overflow_cast-leads
overflow_cast-leads c = record { fits = mask_from-lt 192 32 _ (omega arith) (length-chunk c.args.place 32 c.args.bytes.now c.requires) }
