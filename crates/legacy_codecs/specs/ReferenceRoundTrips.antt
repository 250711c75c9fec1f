-- Round trips with references: a text is encoded with a reference for each unmappable scalar, and its bytes are decoded.
use Rattle.std.specs.Prelude.{◌≡◌, ℕ, List, [], ◌∷◌, map, flat_map, true, false, is_some, ⊤, if◌then◌else◌}
use Rattle.std.specs.List.{list_any}
use Rattle.legacy_base.specs.declared.results.DecodeEvent.{DecodeEvent}
use Rattle.legacy_base.specs.declared.results.DecodeEvent.TheVariants.{Scalar}
use Rattle.legacy_base.specs.declared.results.EncodeEvent.{EncodeEvent}
use Rattle.legacy_base.specs.declared.results.EncodeEvent.TheVariants.{Byte}
use Rattle.legacy_base.specs.Iso2022Jp.{iso_2022_jp_reported}
use Rattle.legacy_base.specs.States.{new_state}
use Rattle.legacy_base.specs.Grammar.{events_of}
use Rattle.legacy_base.specs.Encoders.{Codec, gb18030, gbk, iso_2022_jp, new_encoder, code, encoded}
use Rattle.legacy_base.specs.RoundTrips.{grammar_of, HasAcceptedLists, EndsInAscii, holds_adjacent_escapes, read_as, has_lost_row, KeepsCodes}
use Rattle.legacy_codecs.specs.References.{reference, referenced_bytes}
use Rattle.legacy_codecs.specs.Runs.{FinishedRun}
use Rattle.legacy_codecs.specs.EncodeRuns.{FinishedEncodeRun}

-- the scalar that is reported if c is unmappable: c, but U+FFFD for three control characters in ISO-2022-JP
abbrev pub reported_scalar : Codec → ℕ → ℕ
reported_scalar (iso_2022_jp jis0208 katakana_index) c = iso_2022_jp_reported c
reported_scalar _ c = c

-- what is read for c: the scalar that its code decodes to, or the characters of a reference if it has no code
abbrev pub read_or_reference : Codec → ℕ → List ℕ
read_or_reference codec c =
    if is_some (code (new_encoder codec) c) then read_as codec c ∷ []
    else reference (reported_scalar codec c)

-- what is read for a text
abbrev pub read_with_references : Codec → List ℕ → List ℕ
read_with_references codec text = flat_map (read_or_reference codec) text

-- the bytes that a new encoder writes for a text with its end, with references
abbrev pub written_with_references : Codec → List ℕ → List ℕ
written_with_references codec text = referenced_bytes (encoded (new_encoder codec) text true)

-- The condition, only in GB18030 and GBK: no scalar of the text has a row whose bytes have no scalar.
abbrev pub HasNoLostRow : Codec → List ℕ → Type 0
HasNoLostRow (gb18030 index ranges pua) text = list_any (has_lost_row index pua) text ≡ false
HasNoLostRow (gbk index ranges pua) text = list_any (has_lost_row index pua) text ≡ false
HasNoLostRow _ text = ⊤

-- Text encoded with references is well formed. Each scalar with a code decodes to what `read_as` says, and each other
-- one to the characters of its reference, with no malformed sequences.
abbrev pub ReferencesRoundTrip : Type 0
ReferencesRoundTrip =
    (codec : Codec) → HasAcceptedLists codec → (text : List ℕ) → HasNoLostRow codec text →
    events_of (grammar_of codec) (written_with_references codec text) ≡ map Scalar (read_with_references codec text)

-- In ISO-2022-JP these bytes end in ASCII mode and have no adjacent escapes.
abbrev pub ReferencesKeepEscapesApart : Type 0
ReferencesKeepEscapesApart =
    (jis0208 katakana_index text : List ℕ) →
    let codec = iso_2022_jp jis0208 katakana_index in
    EndsInAscii jis0208 (read_with_references codec text) (written_with_references codec text)
    × (holds_adjacent_escapes (written_with_references codec text) ≡ false)

-- The text that these bytes decode to is encoded as the same bytes, if each fold has the code of the scalar that it is
-- read as.
abbrev pub ReencodesReferences : Type 0
ReencodesReferences =
    (codec : Codec) → HasAcceptedLists codec → (text : List ℕ) → HasNoLostRow codec text → KeepsCodes codec text →
    encoded (new_encoder codec) (read_with_references codec text) true ≡ map Byte (written_with_references codec text)

-- A finished run of a new decoder over the bytes of a finished run of a new encoder, with references, gives what is
-- read. Nothing is malformed, however both inputs are cut.
abbrev pub RunsReadReferences : Type 0
RunsReadReferences =
    (codec : Codec) → HasAcceptedLists codec → (text : List ℕ) → HasNoLostRow codec text →
    (encoded : List EncodeEvent) → FinishedEncodeRun (new_encoder codec) text encoded → (answered : List DecodeEvent) →
    FinishedRun (new_state (grammar_of codec)) (referenced_bytes encoded) answered →
    answered ≡ map Scalar (read_with_references codec text)
