use Rattle.std.proofs.Common.{◌-◌, length}
use Rattle.legacy_encoder_engine.specs.{Guesses.IsGuess, UnfinishedCall.EncodesBy}
use Rattle.legacy_encoder_engine.proofs.read_ahead.read_scalars.Given as goal

-- the codes of the scalars read are written
abbrev pub invariant-loop-dst : goal.invariant-loop-dst
invariant-loop-dst g l = EncodesBy g.S.TextCursor (g.C.AheadCodes.state l.codes) l.fn.src l.fn.dst l.start l.src l.dst l.at
    × IsGuess (g.C.AheadCodes.state l.codes).codec l.guess

abbrev pub decreases-loop-dst : goal.decreases-loop-dst
decreases-loop-dst g l = length l.dst - l.at
