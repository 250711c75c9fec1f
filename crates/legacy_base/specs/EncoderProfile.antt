-- A record that defines an encoder. Each codec's file in this folder has its own value.
use Rattle.std.specs.Prelude.{ℕ, List, [], ◌∷◌, Option, Some, Bool, true, false, nat_lt, if◌then◌else◌, option_map}
use Rattle.std.specs.Char.{is_ascii}
use Rattle.legacy_base.specs.declared.{modes.EncoderMode.{EncoderMode, TheVariants.{Ascii, Roman, TwoByte}}, results.EncodeEvent.{EncodeEvent}}
use Rattle.legacy_base.specs.EncodeEvents.{plain_events}
use Rattle.legacy_text.specs.EncodingForm.{EncodingForm, Utf8, Utf16}
use Rattle.legacy_base.specs.Formulas.{Formula, number, ◌⊕◌, ◌⊗◌}

-- the modes differ
abbrev pub differs : EncoderMode → EncoderMode → Bool
differs Ascii Ascii = false
differs Roman Roman = false
differs TwoByte TwoByte = false
differs _ _ = true

-- an encoder: all that the law of a call depends on
pub record EncoderProfile : Type 0 where
  -- the bytes of a scalar without escapes, or none
  pub code : ℕ → Option (List ℕ)
  -- the events of a text that begins in a mode, and ends or continues
  pub events : EncoderMode → List ℕ → Bool → List EncodeEvent
  -- the mode in which a scalar is written after the given mode
  pub mode_for : EncoderMode → ℕ → EncoderMode
  -- the bytes that the end of a text writes in a mode
  pub end_bytes : EncoderMode → List ℕ
  -- the free bytes that a scalar needs, mapped or not, with an escape before it
  pub scalar_need : ℕ → ℕ
  -- the formulas of the length queries, for a number of code units in the text's form
  pub formula : EncodingForm → Formula → Formula
  -- the amount, by mode, by which less than the formula's value is enough
  pub surplus : EncodingForm → EncoderMode → ℕ → ℕ

-- one formula for a text in UTF-8, and one for UTF-16
abbrev pub by_form : (Formula → Formula) → (Formula → Formula) → EncodingForm → Formula → Formula
by_form from_utf8 from_utf16 Utf8 n = from_utf8 n
by_form from_utf8 from_utf16 Utf16 n = from_utf16 n

-- a codec without modes: the code of a scalar, the need of a scalar past ASCII (ASCII needs one byte), and the formulas
-- for UTF-8 and UTF-16
abbrev pub plain_encoder : (ℕ → Option (List ℕ)) → ℕ → (Formula → Formula) → (Formula → Formula) → EncoderProfile
plain_encoder code past from_utf8 from_utf16 = record {
  code = code;
  events = λ mode scalars ended. plain_events code scalars;
  mode_for = λ mode c. mode;
  end_bytes = λ mode. [];
  scalar_need = λ c. if nat_lt c 0x80 then 1 else past;
  formula = by_form from_utf8 from_utf16;
  surplus = λ form mode n. 0;
}

-- ---- codecs of ASCII and pairs

-- the code of a scalar: ASCII is itself, and another scalar has the bytes of its pointer
abbrev pub pointer_code : (ℕ → List ℕ) → (ℕ → Option ℕ) → ℕ → Option (List ℕ)
pointer_code bytes pointer_of c = if is_ascii c then Some (c ∷ []) else option_map bytes (pointer_of c)

-- a codec without modes whose codes have one or two bytes
abbrev pub pair_encoder : (ℕ → Option (List ℕ)) → EncoderProfile
pair_encoder code = plain_encoder code 2 (λ n. n ⊕ number 1) (λ n. number 2 ⊗ n)
