-- What a mail reader reports of a message.
use Rattle.std.specs.Prelude.{◌≡◌, ◌≢◌, ℕ, List, ◌++◌, length, Bool, ◌==◌, None}
use Rattle.legacy_base.specs.Grammar.{events_of}
use Rattle.legacy_base.specs.States.{DecoderState}
use Rattle.legacy_base.specs.Lengths.{query_answer, to_utf8_without_replacement}
use Rattle.legacy_codecs.specs.declared.malformed.MalformedSequence.{MalformedSequence}
use Rattle.legacy_codecs.specs.MalformedSequences.{malformed_of}
use Rattle.legacy_encodings.specs.declared.registry.Coders.{Coders}
use Rattle.legacy_encodings.specs.declared.registry.RegistryError.{RegistryError}
use Rattle.legacy_encodings.specs.declared.registry.RegistryError.TheVariants.{Sized}
use Rattle.legacy_codecs.specs.declared.whole.SizedError.TheVariants.{TooLong, Memory}
use Rattle.legacy_encodings.specs.Registries.{can_decode, IsDecoderOf, IsLabelError}

-- these are the malformed sequences of the message, by the encoding of the name
pub record AreMalformedIn (coders : Coders) (name message : List ℕ) (found : List MalformedSequence) : Type 0 where
  pub state : DecoderState
  pub decoder : IsDecoderOf coders name state
  pub short : query_answer to_utf8_without_replacement state (length message) ≢ None
  pub found_is : found ≡ malformed_of (length state.held) (events_of state.grammar (state.held ++ message))

-- The error if no malformed sequences are returned. An allocation can fail if there is a decoder and a length.
abbrev pub IsMailError : Coders → List ℕ → List ℕ → RegistryError → Type 0
IsMailError coders name message (Sized TooLong) =
    (state : DecoderState) × IsDecoderOf coders name state
    × (query_answer to_utf8_without_replacement state (length message) ≡ None)
IsMailError coders name message (Sized Memory) =
    (state : DecoderState) × IsDecoderOf coders name state
    × (query_answer to_utf8_without_replacement state (length message) ≢ None)
IsMailError coders name message error = IsLabelError (can_decode coders) name error

-- `is_so` is whether the message has no malformed sequence
pub record IsChecked (coders : Coders) (name message : List ℕ) (is_so : Bool) : Type 0 where
  pub found : List MalformedSequence
  pub are_found : AreMalformedIn coders name message found
  pub answer : is_so ≡ (length found == 0)
