-- Byte round trips: bytes are decoded, and their text is encoded.
use Rattle.std.specs.Prelude.{◌≡◌, ℕ, List, map, Bool, true, false, IsTrue}
use Rattle.legacy_tables.specs.Unicode.{AreBytes}
use Rattle.legacy_base.specs.declared.results.DecodeEvent.TheVariants.{Scalar}
use Rattle.legacy_base.specs.declared.results.EncodeEvent.{EncodeEvent}
use Rattle.legacy_base.specs.declared.results.EncodeEvent.TheVariants.{Byte}
use Rattle.legacy_base.specs.States.{new_state}
use Rattle.legacy_base.specs.Grammar.{events_of}
use Rattle.legacy_base.specs.Encoders.{Codec, single_byte, user_defined, new_encoder, encoded}
use Rattle.legacy_base.specs.RoundTrips.{grammar_of, HasAcceptedLists}
use Rattle.legacy_codecs.specs.Runs.{FinishedRun}
use Rattle.legacy_codecs.specs.EncodeRuns.{FinishedEncodeRun}

-- The single-byte encodings and x-user-defined. Each scalar is one byte, and no two bytes are the same scalar.
abbrev pub has_one_byte_each : Codec → Bool
has_one_byte_each (single_byte table) = true
has_one_byte_each user_defined = true
has_one_byte_each _ = false

-- if nothing in the bytes is malformed, the text that they decode to is encoded as the same bytes
abbrev pub BytesRoundTrip : Type 0
BytesRoundTrip =
    (codec : Codec) → HasAcceptedLists codec → IsTrue (has_one_byte_each codec) →
    (bytes text : List ℕ) → AreBytes bytes → events_of (grammar_of codec) bytes ≡ map Scalar text →
    encoded (new_encoder codec) text true ≡ map Byte bytes

-- The same holds of finished runs, however the bytes and the text are cut.
abbrev pub RunsKeepBytes : Type 0
RunsKeepBytes =
    (codec : Codec) → HasAcceptedLists codec → IsTrue (has_one_byte_each codec) →
    (bytes text : List ℕ) → AreBytes bytes → FinishedRun (new_state (grammar_of codec)) bytes (map Scalar text) →
    (answered : List EncodeEvent) → FinishedEncodeRun (new_encoder codec) text answered →
    answered ≡ map Byte bytes
