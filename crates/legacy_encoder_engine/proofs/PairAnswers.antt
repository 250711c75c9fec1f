-- Codecs with ASCII and pairs, and the results of their length queries.
use Rattle.std.proofs.{Common.{◌≡◌, ◌∙◌, ℕ, ◌≤◌, List, length, Option, refl, ap}, lemmas.Bool.lt-ltb}
use Rattle.legacy_text.specs.EncodingForm.{Utf8, Utf16}
use Rattle.legacy_base.specs.{Lengths.{number, ◌⊕◌, ◌⊗◌, answer}, EncoderProfile.{EncoderProfile, pair_encoder, pointer_code}}
use Rattle.legacy_base.specs.Encoders.{Codec, encoder_profile, new_encoder, encoder_answer}
use Rattle.legacy_encoder_engine.specs.PairCodecs.{IsPairCodec}
use Rattle.legacy_encoder_engine.proofs.PlainServes.{short_past, short_map}

-- a codec in which a scalar past ASCII has the bytes of its pointer
pub by_pointers : (codec : Codec) (code : ℕ → Option (List ℕ)) (bytes : ℕ → List ℕ) (pointer_of : ℕ → Option ℕ) → encoder_profile codec ≡ pair_encoder code →
    ((c : ℕ) → code c ≡ pointer_code bytes pointer_of c) → ((p : ℕ) → length (bytes p) ≤ 2) → IsPairCodec codec
by_pointers codec code bytes pointer_of is code_is two = record {
  code = code;
  profile_is = is;
  ascii = λ c h. code_is c ∙ rw (lt-ltb c 128 h) refl;
  short = λ c h. rw (code_is c) (short_past c _ _ 2 h (short_map bytes (pointer_of c) 2 two));
}

pub from_utf16 : (codec : Codec) → IsPairCodec codec → (n : ℕ) → encoder_answer Utf16 (new_encoder codec) n ≡ answer (number 2 ⊗ number n)
from_utf16 codec p n = ap (λ (q : EncoderProfile). answer (q.formula Utf16 (number n))) p.profile_is

pub from_utf8 : (codec : Codec) → IsPairCodec codec → (n : ℕ) → encoder_answer Utf8 (new_encoder codec) n ≡ answer (number n ⊕ number 1)
from_utf8 codec p n = ap (λ (q : EncoderProfile). answer (q.formula Utf8 (number n))) p.profile_is
