use Rattle.{std.proofs.Common.{◌-◌, ◌≤◌, take, length}, legacy_decoder_engine.specs.Moves.HoldsBytes, legacy_chinese.specs.Gb18030Decoder.gb18030_state}
use Rattle.legacy_chinese.proofs.gb18030.decoder.Gb18030DecoderDecoderMoves.hold_back.Given as goal

-- the bytes before the place are held back
abbrev pub invariant-loop-at : goal.invariant-loop-at
invariant-loop-at g l = record {
  within : l.at ≤ length l.fn.src;
  holds : HoldsBytes g.T.Destination.form (g.T.Destination.room l.fn.dst) (gb18030_state l.fn.self) (take l.at l.fn.src) (gb18030_state l.self);
}

abbrev pub decreases-loop-at : goal.decreases-loop-at
decreases-loop-at g l = length l.fn.src - l.at
