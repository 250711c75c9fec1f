-- The bytes of the codes of x-user-defined, and the state of its encoder between two calls, which never changes.
use Rattle.std.{proofs.{Common.{refl, arith}, lemmas.Bool.lt-ltb}, specs.Int.is_in_range}
use Rattle.legacy_base.specs.{UserDefined.user_defined_code, Encoders.{EncoderState, new_encoder, user_defined}}
use Rattle.legacy_miscellaneous.specs.declared.user_defined.encoder.UserDefinedEncoder.{UserDefinedEncoder}
use Rattle.legacy_encoder_engine.{specs.{PlainCodecs.IsPlainCodec, PlainLengths.byte_lengths}, proofs.PlainServes.{short_past, short_if}}

pub user_defined_plain : IsPlainCodec user_defined 1
unfolding user_defined_code
user_defined_plain = record {
  code = user_defined_code;
  from_utf8 = λ n. n;
  from_utf16 = λ n. n;
  profile_is = refl;
  ascii = λ c h. rw (lt-ltb c 128 h) refl;
  most = 1;
  short = λ c h. short_past c _ _ 1 h (short_if (is_in_range 0xF780 0xF7FF c) _ _ 1 (omega arith) (omega arith));
  lengths = byte_lengths;
}

-- the state that the laws of its calls use
abbrev pub user_defined_encoder_state : UserDefinedEncoder → EncoderState
user_defined_encoder_state encoder = new_encoder user_defined
