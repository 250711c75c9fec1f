-- The bytes of the codes of Big5.
use Rattle.std.{proofs.Common.{ℕ, ◌≢◌, ◌+◌, ◌*◌, ◌/◌, ◌%◌, List, refl, arith, nat_lt}, specs.Prelude.if◌then◌else◌}
use Rattle.{legacy_tables.specs.Pointers.big5_pointer_of, legacy_base.specs.{Big5.{big5_code, big5_bytes}, Encoders.big5}}
use Rattle.legacy_encoder_engine.{specs.PairCodecs.IsPairCodec, proofs.PairAnswers.by_pointers}

-- Big5 is a codec of ASCII and pairs, with any index
pub big5_pairs : (index : List ℕ) → IsPairCodec (big5 index)
unfolding big5_code
big5_pairs index = by_pointers (big5 index) (big5_code index) big5_bytes (big5_pointer_of index) refl (λ c. refl) (λ p. omega arith)

-- the lead and the trail of a pointer as one number, with the lead in the low byte
abbrev pub big5_mark : ℕ → ℕ
big5_mark p = (p / 157 + 0x81) + 256 * (p % 157 + (if nat_lt (p % 157) 0x3F then 0x40 else 0x62))

-- no such number is 0
pub big5_mark-some : (p : ℕ) → big5_mark p ≢ 0
big5_mark-some p e = omega arith
