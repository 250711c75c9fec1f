-- The state of the replacement decoder between two calls, with nothing held back.
use Rattle.legacy_base.specs.{Grammar.replacement, States.{DecoderState, new_state}}
use Rattle.legacy_miscellaneous.specs.declared.replacement.decoder.ReplacementDecoder.{ReplacementDecoder}

-- the state that the laws of its calls use
abbrev pub replacement_state : ReplacementDecoder → DecoderState
replacement_state decoder = new_state (replacement decoder.has_reported)
