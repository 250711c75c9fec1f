-- The bytes of the codes of EUC-JP.
use Rattle.std.proofs.{Common.{ℕ, ◌≢◌, ◌+◌, ◌*◌, ◌/◌, ◌%◌, List, refl, arith}, lemmas.Bool.Decides.nat_tests}
use Rattle.{legacy_base.specs.{EucJp.euc_jp_code, Encoders.euc_jp}, legacy_encoder_engine.specs.PairCodecs.IsPairCodec}

-- EUC-JP is a codec of ASCII and pairs, with any indexes
pub euc_jp_pairs : (jis0208 jis0212 : List ℕ) → IsPairCodec (euc_jp jis0208 jis0212)
unfolding euc_jp_code
euc_jp_pairs jis0208 jis0212 = record { code = euc_jp_code jis0208; profile_is = refl; ascii = λ c h. grind (arith, nat_tests); short = λ c h. grind arith }

-- the lead and the trail of a pointer as one number, with the lead in the low byte
abbrev pub euc_jp_mark : ℕ → ℕ
euc_jp_mark p = (p / 94 + 0xA1) + 256 * (p % 94 + 0xA1)

-- no such number is 0
pub euc_jp_mark-some : (p : ℕ) → euc_jp_mark p ≢ 0
euc_jp_mark-some p e = omega arith
