-- The bytes of the codes of EUC-KR.
use Rattle.std.proofs.Common.{ℕ, ◌≢◌, ◌+◌, ◌*◌, ◌/◌, ◌%◌, List, refl, arith}
use Rattle.legacy_tables.specs.Pointers.{index_pointer_of}
use Rattle.legacy_base.specs.EucKr.{euc_kr_code, euc_kr_bytes}
use Rattle.legacy_base.specs.Encoders.{euc_kr}
use Rattle.legacy_encoder_engine.specs.PairCodecs.{IsPairCodec}
use Rattle.legacy_encoder_engine.proofs.PairAnswers.{by_pointers}

-- EUC-KR is a codec of ASCII and pairs, with any index
pub euc_kr_pairs : (index : List ℕ) → IsPairCodec (euc_kr index)
unfolding euc_kr_code
euc_kr_pairs index = by_pointers (euc_kr index) (euc_kr_code index) euc_kr_bytes (index_pointer_of index) refl (λ c. refl) (λ p. omega arith)

-- the lead and the trail of a pointer as one number, with the lead in the low byte
abbrev pub euc_kr_mark : ℕ → ℕ
euc_kr_mark p = (p / 190 + 0x81) + 256 * (p % 190 + 0x41)

-- no such number is 0
pub euc_kr_mark-some : (p : ℕ) → euc_kr_mark p ≢ 0
euc_kr_mark-some p e = omega arith
