-- The requirements of the common encoder of codecs without modes.
use Rattle.std.specs.Prelude.{◌≡◌, ℕ, ◌+◌, ◌<◌, ◌≤◌, List, [], ◌∷◌, Option, Some}
use Rattle.legacy_base.specs.{EncodeEvents.code_length, EncoderProfile.plain_encoder, Encoders.Codec, Encoders.encoder_profile}
use Rattle.legacy_base.specs.Lengths.{Formula, number, value}

-- Two length formulas are enough for codes of at most `most` bytes, one byte for ASCII, and a need of `past` bytes past
-- ASCII. They are compared for u + t code units, u of which are those of a scalar.
pub record HasPlainLengths (past most : ℕ) (from_utf8 from_utf16 : Formula → Formula) : Type 0 where
  pub fits : (1 ≤ most) × (most ≤ past)
  pub low16 : (u t own : ℕ) → 1 ≤ u → own ≤ most → value (from_utf16 (number t)) + own ≤ value (from_utf16 (number (u + t)))
  pub enough16 : (u t : ℕ) → 1 ≤ u → past ≤ value (from_utf16 (number (u + t)))
  pub ascii8 : (u t own : ℕ) → 1 ≤ u → own ≤ 1 → value (from_utf8 (number t)) + own ≤ value (from_utf8 (number (u + t)))
  pub low8 : (u t own : ℕ) → 2 ≤ u → own ≤ most → value (from_utf8 (number t)) + own ≤ value (from_utf8 (number (u + t)))
  pub enough8 : (u t : ℕ) → 2 ≤ u → past ≤ value (from_utf8 (number (u + t)))

-- a codec without modes in which ASCII is itself and a scalar past ASCII needs `past` bytes
pub record IsPlainCodec (codec : Codec) (past : ℕ) : Type 0 where
  pub code : ℕ → Option (List ℕ)
  pub from_utf8 : Formula → Formula
  pub from_utf16 : Formula → Formula
  pub profile_is : encoder_profile codec ≡ plain_encoder code past from_utf8 from_utf16
  pub ascii : (c : ℕ) → c < 0x80 → code c ≡ Some (c ∷ [])
  -- the greatest number of bytes of a code
  pub most : ℕ
  pub short : (c : ℕ) → 0x80 ≤ c → code_length (code c) ≤ most
  pub lengths : HasPlainLengths past most from_utf8 from_utf16

-- the code of the scalar c is this byte, and no scalar needs more than one byte
abbrev pub HasByte : Codec → ℕ → ℕ → ℕ → Type 0
HasByte codec past c byte = (past ≡ 1) × ((encoder_profile codec).code c ≡ Some (byte ∷ []))
