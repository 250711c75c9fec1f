-- The state of a single-byte decoder between two calls, with nothing held back.
use Rattle.std.specs.Prelude.{ℕ, List}
use Rattle.legacy_base.specs.{Grammar.single_byte, States.{DecoderState, new_state}}
use Rattle.legacy_single_byte.specs.declared.single_byte.decoder.SingleByteDecoder.{SingleByteDecoder}

-- the entries of its table
abbrev pub single_byte_entries : SingleByteDecoder → List ℕ
single_byte_entries decoder = decoder.scalars.table.now.entries

-- the state that the laws of its calls use
abbrev pub single_byte_state : SingleByteDecoder → DecoderState
single_byte_state decoder = new_state (single_byte (single_byte_entries decoder))
