-- The state of the x-user-defined decoder between two calls, with nothing held back.
use Rattle.legacy_base.specs.{Grammar.user_defined, States.{DecoderState, new_state}}
use Rattle.legacy_miscellaneous.specs.declared.user_defined.decoder.UserDefinedDecoder.{UserDefinedDecoder}

-- the state that the laws of its calls use
abbrev pub user_defined_state : UserDefinedDecoder → DecoderState
user_defined_state decoder = new_state user_defined
