-- The requirements of the common encoder of codecs with ASCII and pairs.
use Rattle.legacy_base.specs.Lengths.{◌⊕◌, ◌⊗◌, number}
use Rattle.legacy_base.specs.Encoders.{Codec, EncoderState, encoder_profile, new_encoder}
use Rattle.legacy_base.specs.{EncodeEvents.code_length, EncoderProfile.pair_encoder}
use Rattle.std.proofs.Common.{◌≡◌, ℕ, ◌<◌, ◌≤◌, List, [], ◌∷◌, Option, Some}
use Rattle.legacy_tables.specs.{Indexes.FlatIndexes, AcceptedTables.AcceptedIndexes}
use Rattle.legacy_encoder_engine.specs.{PlainCodecs.IsPlainCodec, PlainLengths.pair_lengths}

-- the state of such an encoder between two calls, which never changes
abbrev pub pair_encoder_state : (FlatIndexes → Codec) → AcceptedIndexes → EncoderState
pair_encoder_state codec tables = new_encoder (codec tables.flat)

-- a codec without modes in which ASCII is itself and each code has at most two bytes
pub record IsPairCodec (codec : Codec) : Type 0 where
  pub code : ℕ → Option (List ℕ)
  pub profile_is : encoder_profile codec ≡ pair_encoder code
  pub ascii : (c : ℕ) → c < 0x80 → code c ≡ Some (c ∷ [])
  pub short : (c : ℕ) → 0x80 ≤ c → code_length (code c) ≤ 2

-- such a codec has no modes, and its codes have at most two bytes
pub pair_plain : (codec : Codec) → IsPairCodec codec → IsPlainCodec codec 2
pair_plain codec p = record {
  code = p.code;
  from_utf8 = λ n. n ⊕ number 1;
  from_utf16 = λ n. number 2 ⊗ n;
  profile_is = p.profile_is;
  ascii = p.ascii;
  most = 2;
  short = p.short;
  lengths = pair_lengths;
}
