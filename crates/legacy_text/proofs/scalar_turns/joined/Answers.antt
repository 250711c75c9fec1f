use Rattle.std.proofs.Common.{◌+◌, refl, arith}
use Rattle.legacy_text.proofs.ScalarTurns.{joined_lane}
use Rattle.legacy_text.proofs.scalar_turns.joined.Goals as goal

pub returns-clause-first : goal.returns-clause-first
returns-clause-first c = λ k h. joined_lane c.args.lows c.args.highs c.fits-lows.0 c.fits-lows.1 c.fits-highs.1 0 k k (omega arith) (omega arith) h

pub returns-clause-others : goal.returns-clause-others
returns-clause-others c = λ k h. joined_lane c.args.lows c.args.highs c.fits-lows.0 c.fits-lows.1 c.fits-highs.1 8 k (8 + k) refl (omega arith) h
