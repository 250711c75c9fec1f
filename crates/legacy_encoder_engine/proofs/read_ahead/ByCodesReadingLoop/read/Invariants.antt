use Rattle.std.proofs.Common.{◌-◌, length}
use Rattle.legacy_encoder_engine.specs.{Guesses.IsGuess, UnfinishedCall.EncodesBy}
use Rattle.legacy_encoder_engine.proofs.read_ahead.ByCodesReadingLoop.read.Given as goal

-- the codes of the scalars read are written
abbrev pub invariant-loop-at : goal.invariant-loop-at
invariant-loop-at g l = EncodesBy g.S.TextCursor (g.C.AheadCodes.state l.self.codes.now) l.fn.src l.fn.dst l.start l.src l.dst l.at
    × IsGuess (g.C.AheadCodes.state l.self.codes.now).codec l.guess

abbrev pub decreases-loop-at : goal.decreases-loop-at
decreases-loop-at g l = length l.dst - l.at
