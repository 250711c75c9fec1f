-- A text that is encoded in one run, and decoded in another.
use Rattle.std.specs.Prelude.{◌≡◌, List, ℕ, map, Bool, false, IsTrue, ⊤}
use Rattle.std.specs.List.{list_any}
use Rattle.legacy_base.specs.declared.results.DecodeEvent.{DecodeEvent}
use Rattle.legacy_base.specs.declared.results.DecodeEvent.TheVariants.{Scalar}
use Rattle.legacy_base.specs.declared.results.EncodeEvent.{EncodeEvent}
use Rattle.legacy_base.specs.declared.results.EncodeEvent.TheVariants.{Byte}
use Rattle.legacy_base.specs.States.{new_state}
use Rattle.legacy_base.specs.Grammar.{events_of}
use Rattle.legacy_base.specs.Encoders.{Codec, iso_2022_jp, EncoderState, new_encoder}
use Rattle.legacy_base.specs.RoundTrips.{grammar_of, is_fold, HasAcceptedLists, IsEncodedAs, EndsInAscii, holds_adjacent_escapes, bytes_of, read_back, IsSound}
use Rattle.legacy_codecs.specs.Pieces.{joined}
use Rattle.legacy_codecs.specs.Runs.{FinishedRun}
use Rattle.legacy_codecs.specs.EncodeRuns.{FinishedEncodeRun}

-- A finished run of a new encoder over a text without folds gave bytes alone, so no scalar was unmappable.
pub record WritesInFull (codec : Codec) (text bytes : List ℕ) : Type 0 where
  pub run : FinishedEncodeRun (new_encoder codec) text (map Byte bytes)
  pub unfolded : list_any (is_fold codec) text ≡ false

-- such bytes are those of the encoded text
abbrev pub RunsEncode : Type 0
RunsEncode = (codec : Codec) (text bytes : List ℕ) → WritesInFull codec text bytes → IsEncodedAs codec text bytes

-- A finished run of a new decoder with the same lists over such bytes gives the scalars of the text, and nothing
-- malformed. The bytes may be cut in any way.
abbrev pub RunsRoundTrip : Type 0
RunsRoundTrip =
    (codec : Codec) → HasAcceptedLists codec →
    (text bytes : List ℕ) → WritesInFull codec text bytes →
    (answered : List DecodeEvent) → FinishedRun (new_state (grammar_of codec)) bytes answered →
    answered ≡ map Scalar text

-- A finished run of a new decoder over such bytes gives a text. A finished run of a new encoder over that text gives
-- the same bytes.
abbrev pub RunsReencodeToTheSame : Type 0
RunsReencodeToTheSame =
    (codec : Codec) → HasAcceptedLists codec →
    (text bytes : List ℕ) → WritesInFull codec text bytes →
    (decoded : List ℕ) → FinishedRun (new_state (grammar_of codec)) bytes (map Scalar decoded) →
    (answered : List EncodeEvent) → FinishedEncodeRun (new_encoder codec) decoded answered →
    answered ≡ map Byte bytes

-- ---- any text: with folds, and with unmappable scalars

-- A finished run of a new decoder over the bytes of a finished run of a new encoder gives what is read of the text.
-- Nothing is malformed, however both inputs are cut.
abbrev pub RunsEncodeWellFormed : Type 0
RunsEncodeWellFormed =
    (codec : Codec) → HasAcceptedLists codec →
    (text : List ℕ) → IsSound codec text →
    (encoded : List EncodeEvent) → FinishedEncodeRun (new_encoder codec) text encoded →
    (answered : List DecodeEvent) → FinishedRun (new_state (grammar_of codec)) (bytes_of encoded) answered →
    answered ≡ map Scalar (read_back codec text)

-- ---- the events of one run

-- the escapes of ISO-2022-JP: the bytes end in ASCII mode, and no two escapes are adjacent
abbrev pub HasEscapesInPlace : Codec → List ℕ → List ℕ → Type 0
HasEscapesInPlace (iso_2022_jp jis0208 katakana_index) text bytes =
    EndsInAscii jis0208 text bytes × (holds_adjacent_escapes bytes ≡ false)
HasEscapesInPlace _ text bytes = ⊤

-- The encoded text decodes by the grammar of the same codec and lists.
pub record ComesBack (codec : Codec) (text : List ℕ) (answered : List EncodeEvent) : Type 0 where
  -- If nothing is unmappable and the text has no fold, the bytes decode to the scalars of the text, and to nothing
  -- else.
  pub itself : (bytes : List ℕ) → answered ≡ map Byte bytes → list_any (is_fold codec) text ≡ false →
      (events_of (grammar_of codec) bytes ≡ map Scalar text) × HasEscapesInPlace codec text bytes
  -- The bytes of any text decode to what is read of it, and nothing is malformed.
  pub well_formed : IsSound codec text → events_of (grammar_of codec) (bytes_of answered) ≡ map Scalar (read_back codec text)

-- the events of a finished run of a new encoder over all pieces decode so
abbrev pub RunComesBack : EncoderState → List (List ℕ) → Bool → List EncodeEvent → Type 0
RunComesBack before pieces finished answered =
    (codec : Codec) → HasAcceptedLists codec → before ≡ new_encoder codec →
    IsTrue finished → ComesBack codec (joined pieces) answered
