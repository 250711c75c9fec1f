-- The encoders: the events of a text, and the needs and lengths of outputs.
use Rattle.std.specs.Prelude.{ℕ, ◌-◌, List, [], ◌∷◌, length, Option, Bool, true, false, not}
use Rattle.legacy_base.specs.declared.{modes.EncoderMode.{EncoderMode, TheVariants.Ascii}, results.EncodeEvent.{EncodeEvent}}
use Rattle.legacy_text.specs.EncodingForm.{EncodingForm}
use Rattle.legacy_base.specs.EncoderProfile.{EncoderProfile}
use Rattle.legacy_base.specs.Lengths.{Formula, number, value, answer}
use Rattle.legacy_base.specs.Profile.{is_empty}
use Rattle.legacy_base.specs.SingleByte.{single_byte_encoder}
use Rattle.legacy_base.specs.UserDefined.{user_defined_encoder}
use Rattle.legacy_base.specs.Big5.{big5_encoder}
use Rattle.legacy_base.specs.EucKr.{euc_kr_encoder}
use Rattle.legacy_base.specs.ShiftJis.{shift_jis_encoder}
use Rattle.legacy_base.specs.EucJp.{euc_jp_encoder}
use Rattle.legacy_base.specs.Gb18030.{gb18030_encoder, gbk_encoder}
use Rattle.legacy_base.specs.Iso2022Jp.{iso_2022_jp_encoder}

-- A codec with the lists that its decoder and its encoder use.
pub data Codec : Type 0 where
  single_byte : (table : List ℕ) → Codec
  user_defined : Codec
  big5 : (index : List ℕ) → Codec
  euc_kr : (index : List ℕ) → Codec
  shift_jis : (jis0208 : List ℕ) → Codec
  euc_jp : (jis0208 jis0212 : List ℕ) → Codec
  gb18030 : (index : List ℕ) (ranges : List (ℕ × ℕ)) (pua : List (ℕ × ℕ × ℕ)) → Codec
  gbk : (index : List ℕ) (ranges : List (ℕ × ℕ)) (pua : List (ℕ × ℕ × ℕ)) → Codec
  iso_2022_jp : (jis0208 katakana_index : List ℕ) → Codec

-- the encoder of a codec
abbrev pub encoder_profile : Codec → EncoderProfile
encoder_profile (single_byte table) = single_byte_encoder table
encoder_profile user_defined = user_defined_encoder
encoder_profile (big5 index) = big5_encoder index
encoder_profile (euc_kr index) = euc_kr_encoder index
encoder_profile (shift_jis jis0208) = shift_jis_encoder jis0208
encoder_profile (euc_jp jis0208 jis0212) = euc_jp_encoder jis0208
encoder_profile (gb18030 index ranges pua) = gb18030_encoder index ranges pua
encoder_profile (gbk index ranges pua) = gbk_encoder index pua
encoder_profile (iso_2022_jp jis0208 katakana_index) = iso_2022_jp_encoder jis0208 katakana_index

-- ---- an encoder between two calls

-- the state of an encoder between two calls: its codec and its mode
pub record EncoderState : Type 0 where
  pub codec : Codec
  pub mode : EncoderMode

-- an encoder before its first scalar
abbrev pub new_encoder : Codec → EncoderState
new_encoder codec = record { codec = codec; mode = Ascii }

-- the bytes of a scalar, or none
abbrev pub code : EncoderState → ℕ → Option (List ℕ)
code state c = (encoder_profile state.codec).code c

-- the events of the scalars of a text, which ends with them or continues
abbrev pub encoded : EncoderState → List ℕ → Bool → List EncodeEvent
encoded state scalars ended = (encoder_profile state.codec).events state.mode scalars ended

-- the bytes that the end of a text writes
abbrev pub end_bytes : EncoderState → List ℕ
end_bytes state = (encoder_profile state.codec).end_bytes state.mode

-- the end of the text writes bytes
abbrev pub is_pending : EncoderState → Bool
is_pending state = not (is_empty (end_bytes state))

-- ---- needs and length queries

-- the free bytes that a scalar needs, mapped or not
abbrev pub scalar_need : EncoderState → ℕ → ℕ
scalar_need state c = (encoder_profile state.codec).scalar_need c

-- The free bytes that the next act needs, or 0 if there is none. The next act writes the first unread scalar, with an
-- escape before it if needed, or the end of the last call.
abbrev pub encoder_need : EncoderState → List ℕ → Bool → ℕ
encoder_need state (c ∷ unread) last = scalar_need state c
encoder_need state [] true = length (end_bytes state)
encoder_need state [] false = 0

-- the formula of the length query for a text's form and n more code units
abbrev pub encoder_formula : EncodingForm → EncoderState → ℕ → Formula
encoder_formula form state n = (encoder_profile state.codec).formula form (number n)

-- the result of a length query for n more code units
abbrev pub encoder_answer : EncodingForm → EncoderState → ℕ → Option ℕ
encoder_answer form state n = answer (encoder_formula form state n)

-- what n more code units can need, as an unbounded number
abbrev pub encoder_total_need : EncodingForm → EncoderState → ℕ → ℕ
encoder_total_need form state n = value (encoder_formula form state n) - (encoder_profile state.codec).surplus form state.mode n
