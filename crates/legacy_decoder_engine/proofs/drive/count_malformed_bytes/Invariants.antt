use Rattle.std.proofs.Common.{◌≤◌, ◌<◌, ◌-◌, ℕ, length, get_or}
use Rattle.legacy_base.specs.Calls.{IsMalformedByte}
use Rattle.legacy_decoder_engine.proofs.drive.count_malformed_bytes.Given as goal

abbrev pub invariant-loop-count : goal.invariant-loop-count
invariant-loop-count g l = record {
  within : l.count ≤ length l.src;
  malformed_byte : (k : ℕ) → k < l.count → IsMalformedByte (g.D.DecoderMoves.state l.decoder) (get_or l.src k 0);
}

abbrev pub decreases-loop-count : goal.decreases-loop-count
decreases-loop-count g l = length l.src - l.count
