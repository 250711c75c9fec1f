-- The bytes of the codes of the single-byte codecs.
use Rattle.std.proofs.{Common.{ℕ, ◌+◌, ◌==◌, List, [], ◌∷◌, refl, arith, position}, lemmas.Bool.lt-ltb}
use Rattle.legacy_base.specs.{SingleByte.single_byte_code, Encoders.single_byte}
use Rattle.legacy_encoder_engine.{specs.{PlainCodecs.IsPlainCodec, PlainLengths.byte_lengths}, proofs.PlainServes.{short_past, short_map}}

-- a single-byte codec has no modes, and its codes have one byte
pub single_byte_plain : (table : List ℕ) → IsPlainCodec (single_byte table) 1
unfolding single_byte_code
single_byte_plain table = record {
  code = single_byte_code table;
  from_utf8 = λ n. n;
  from_utf16 = λ n. n;
  profile_is = refl;
  ascii = λ c h. rw (lt-ltb c 128 h) refl;
  most = 1;
  short = λ c h. short_past c _ _ 1 h (short_map (λ place. (0x80 + place) ∷ []) (position (λ entry. entry == c) table) 1 (λ p. omega arith));
  lengths = byte_lengths;
}
