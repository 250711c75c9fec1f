use Rattle.std.proofs.Common.{◌-◌, length}
use Rattle.legacy_encoder_engine.specs.UnfinishedCall.{EncodesBy}
use Rattle.legacy_encoder_engine.proofs.read_ahead.read_tens.Given as goal

-- the codes of the scalars read are written
abbrev pub invariant-loop-dst : goal.invariant-loop-dst
invariant-loop-dst g l = EncodesBy g.S.TextCursor (g.C.AheadCodes.state l.codes) l.fn.src l.fn.dst l.start l.src l.dst l.at

abbrev pub decreases-loop-dst : goal.decreases-loop-dst
decreases-loop-dst g l = length l.dst - l.at
