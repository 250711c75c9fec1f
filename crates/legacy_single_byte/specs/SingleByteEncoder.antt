-- The state of a single-byte encoder between two calls, which never changes.
use Rattle.legacy_base.specs.Encoders.{EncoderState, new_encoder, single_byte}
use Rattle.legacy_single_byte.specs.declared.single_byte.encoder.SingleByteEncoder.{SingleByteEncoder}

-- the state that the laws of its calls use
abbrev pub single_byte_encoder_state : SingleByteEncoder → EncoderState
single_byte_encoder_state encoder = new_encoder (single_byte encoder.table.now.entries)
