-- The length formulas of codecs without modes are enough, for codes of one byte and for pairs.
use Rattle.std.proofs.Common.{arith}
use Rattle.legacy_base.specs.Lengths.{number, ◌⊕◌, ◌⊗◌}
use Rattle.legacy_encoder_engine.specs.PlainCodecs.{HasPlainLengths}

-- the formulas of codes of one byte are enough
pub byte_lengths : HasPlainLengths 1 1 (λ n. n) (λ n. n)
byte_lengths = omega arith

-- the formulas of codes of at most two bytes are enough
pub pair_lengths : HasPlainLengths 2 2 (λ n. n ⊕ number 1) (λ n. number 2 ⊗ n)
pair_lengths = omega arith
