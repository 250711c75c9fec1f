use Rattle.std.proofs.Common.{◌-◌, length}
use Rattle.legacy_decoder_engine.proofs.AheadInCalls.{IsUnderWay}
use Rattle.legacy_decoder_engine.proofs.drive.drive_decoder.Given as goal

abbrev pub invariant-loop-decoder : goal.invariant-loop-decoder
invariant-loop-decoder g l =
    IsUnderWay g.T.Destination l.last (g.D.DecoderMoves.state l.fn.decoder) l.src l.fn.dst (g.D.DecoderMoves.state l.decoder) l.read l.dst

abbrev pub decreases-loop-decoder : goal.decreases-loop-decoder
decreases-loop-decoder g l = length l.src - l.read
