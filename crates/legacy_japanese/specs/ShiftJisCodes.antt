-- The bytes of the codes of Shift_JIS.
use Rattle.std.{proofs.{Common.{ℕ, ◌≢◌, ◌+◌, ◌*◌, ◌/◌, ◌%◌, List, refl, arith, nat_lt}, lemmas.Bool.Decides.nat_tests}, specs.Prelude.if◌then◌else◌}
use Rattle.{legacy_base.specs.{ShiftJis.shift_jis_code, Encoders.shift_jis}, legacy_encoder_engine.specs.PairCodecs.IsPairCodec}

-- Shift_JIS is a codec of ASCII and pairs, with any index
pub shift_jis_pairs : (jis0208 : List ℕ) → IsPairCodec (shift_jis jis0208)
unfolding shift_jis_code
shift_jis_pairs jis0208 = record { code = shift_jis_code jis0208; profile_is = refl; ascii = λ c h. grind (arith, nat_tests); short = λ c h. grind arith }

-- the lead and the trail of a pointer
abbrev pub shift_jis_lead_of : ℕ → ℕ
shift_jis_lead_of p = p / 188 + (if nat_lt (p / 188) 0x1F then 0x81 else 0xC1)

abbrev pub shift_jis_trail_of : ℕ → ℕ
shift_jis_trail_of p = p % 188 + (if nat_lt (p % 188) 0x3F then 0x40 else 0x41)

-- both as one number, with the lead in the low byte
abbrev pub shift_jis_mark : ℕ → ℕ
shift_jis_mark p = shift_jis_lead_of p + 256 * shift_jis_trail_of p

-- no such number is 0
pub shift_jis_mark-some : (p : ℕ) → shift_jis_mark p ≢ 0
shift_jis_mark-some p e = grind arith
