-- Laws of each encoder's profile: the end of a text, what acts need, and monotonic length formulas.
use Rattle.std.proofs.Common.{◌≡◌, ℕ, ◌-◌, ◌≤◌, List, [], length, map, arith, Option, Bool, true, IsTrue, Some}
use Rattle.legacy_base.specs.{declared.{modes.EncoderMode.EncoderMode, results.EncodeEvent.TheVariants.Byte}, EncodeEvents.plain_events}
use Rattle.legacy_base.specs.EncoderProfile.{EncoderProfile}
use Rattle.legacy_base.specs.{EncoderProfile.plain_encoder, Encoders.{Codec, single_byte, user_defined, big5, euc_kr, shift_jis, euc_jp, gb18030, gbk}}
use Rattle.legacy_base.specs.Encoders.{iso_2022_jp, encoder_profile, EncoderState, encoded, end_bytes, encoder_need, encoder_formula, encoder_answer}
use Rattle.legacy_base.specs.{Encoders.encoder_total_need, declared.results.EncoderResult.EncoderResult, EncoderCalls.tells_end, Iso2022Jp.iso_2022_jp_encoder}
use Rattle.legacy_base.specs.{Iso2022Jp.{iso_2022_jp_text_events, mode_after_text}, Lengths.{Formula, number, ◌⊕◌, ◌⊗◌, value}}
use Rattle.legacy_text.specs.EncodingForm.{EncodingForm}
use Rattle.legacy_base.proofs.Enough.{answer-value}

-- ---- the laws of a profile

pub record HasLaws (p : EncoderProfile) : Type 0 where
  -- the events of an empty text that ends are the bytes of the end
  pub ended : (mode : EncoderMode) → p.events mode [] true ≡ map Byte (p.end_bytes mode)
  -- each scalar and the end need at most four bytes
  pub scalar_fits : (c : ℕ) → p.scalar_need c ≤ 4
  pub end_fits : (mode : EncoderMode) → length (p.end_bytes mode) ≤ 4
  -- more code units need at least as much
  pub rises : (form : EncodingForm) (mode : EncoderMode) (m n : ℕ) → m ≤ n →
      value (p.formula form (number m)) - p.surplus form mode m ≤ value (p.formula form (number n)) - p.surplus form mode n

-- a formula is monotonic in the number of code units
abbrev pub Rises : (Formula → Formula) → Type 0
Rises f = (m n : ℕ) → m ≤ n → value (f (number m)) ≤ value (f (number n))

-- the laws of a codec without modes
pub plain_laws : (code : ℕ → Option (List ℕ)) (past : ℕ) (from_utf8 from_utf16 : Formula → Formula) → past ≤ 4 → Rises from_utf8 → Rises from_utf16 →
    HasLaws (plain_encoder code past from_utf8 from_utf16)
unfolding plain_events
plain_laws code past from_utf8 from_utf16 few rises8 rises16 = grind arith

-- ---- the codecs

-- codecs with one byte for each scalar
byte_laws : (code : ℕ → Option (List ℕ)) → HasLaws (plain_encoder code 1 (λ n. n) (λ n. n))
byte_laws code = plain_laws code 1 _ _ (omega arith) (λ m n h. h) (λ m n h. h)

-- codecs with one byte, or a lead and a trail
pair_laws : (code : ℕ → Option (List ℕ)) → HasLaws (plain_encoder code 2 (λ n. n ⊕ number 1) (λ n. number 2 ⊗ n))
pair_laws code = plain_laws code 2 _ _ (omega arith) (λ m n h. omega arith) (λ m n h. omega arith)

-- ISO-2022-JP, with escapes between the modes
iso_2022_jp_laws : (jis0208 katakana : List ℕ) → HasLaws (iso_2022_jp_encoder jis0208 katakana)
unfolding iso_2022_jp_text_events mode_after_text
iso_2022_jp_laws jis0208 katakana = grind arith

pub encoder_laws : (codec : Codec) → HasLaws (encoder_profile codec)
encoder_laws (single_byte table) = byte_laws _
encoder_laws user_defined = byte_laws _
encoder_laws (big5 index) = pair_laws _
encoder_laws (euc_kr index) = pair_laws _
encoder_laws (shift_jis jis0208) = pair_laws _
encoder_laws (euc_jp jis0208 jis0212) = pair_laws _
encoder_laws (gb18030 index ranges pua) = plain_laws _ 4 _ _ (omega arith) (λ m n h. omega arith) (λ m n h. omega arith)
encoder_laws (gbk index ranges pua) = plain_laws _ 4 _ _ (omega arith) (λ m n h. omega arith) (λ m n h. omega arith)
encoder_laws (iso_2022_jp jis0208 katakana) = iso_2022_jp_laws jis0208 katakana

-- ---- the same laws of an encoder's state

-- if the text is empty and ends, its events are the bytes of the end
pub end-encoded : (s : EncoderState) → encoded s [] true ≡ map Byte (end_bytes s)
end-encoded s = (encoder_laws s.codec).ended s.mode

-- four free bytes are enough for any act
pub encoder_need-small : (s : EncoderState) (unread : List ℕ) (last : Bool) → encoder_need s unread last ≤ 4
encoder_need-small s unread last = grind arith

-- more code units need at least as much
pub encoder_total_need-rises : (form : EncodingForm) (s : EncoderState) (m n : ℕ) → m ≤ n → encoder_total_need form s m ≤ encoder_total_need form s n
encoder_total_need-rises form s = (encoder_laws s.codec).rises form s.mode

-- the need is at most the result of the length query
pub encoder_total_need-answer : (form : EncodingForm) (s : EncoderState) (n k : ℕ) → encoder_answer form s n ≡ Some k → encoder_total_need form s n ≤ k
encoder_total_need-answer form s n k e = let v = answer-value (encoder_formula form s n) k e in omega arith

-- a result says that the end was written only on a last call
pub told_end-last : (last : Bool) (answer : EncoderResult) → IsTrue (tells_end last answer) → IsTrue last
told_end-last last answer h = grind arith
