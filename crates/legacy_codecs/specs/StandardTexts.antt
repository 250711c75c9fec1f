-- Calls for whole inputs and whole texts give what the Standard's decoders and encoders give.
use Rattle.std.specs.Prelude.{◌≡◌, ℕ, List, true}
use Rattle.legacy_base.specs.declared.results.DecodeEvent.{DecodeEvent}
use Rattle.legacy_base.specs.declared.results.EncodeEvent.{EncodeEvent}
use Rattle.legacy_tables.specs.Unicode.{AreBytes, AreScalars}
use Rattle.legacy_base.specs.Grammar.{events_of}
use Rattle.legacy_base.specs.States.{new_state}
use Rattle.legacy_base.specs.Encoders.{Codec, new_encoder, encoded}
use Rattle.legacy_standard.specs.DecoderLaw.{Decoder, decoder_grammar, HandlerDecodes}
use Rattle.legacy_standard.specs.EncoderLaw.{HasAcceptedRanges, HasPointers, HandlerEncodes}
use Rattle.legacy_codecs.specs.MalformedSequences.{malformed_of}
use Rattle.legacy_codecs.specs.References.{referenced_bytes}
use Rattle.legacy_codecs.specs.Replacing.{replaced_scalars}
use Rattle.legacy_codecs.specs.WholeTexts.{text_of}

-- this has the property, and nothing else has it
abbrev pub IsOnly : {A : Type 0} → (A → Type 0) → A → Type 0
IsOnly {A} has this = has this × ((other : A) → has other → other ≡ this)

-- The handler of the Standard's decoder gives events for each list of bytes, and no others. The text of a new decoder
-- for these bytes is that of the events, with U+FFFD for each error ("process an item", error mode "replacement"). Its
-- malformed sequences are the errors among the events.
abbrev pub TextsAreDecodedByHandlers : Type 0
TextsAreDecodedByHandlers =
    (decoder : Decoder) (bytes : List ℕ) → AreBytes bytes →
    (events : List DecodeEvent) × IsOnly (HandlerDecodes decoder bytes) events
    × (text_of (new_state (decoder_grammar decoder)) bytes ≡ replaced_scalars events)
    × (malformed_of 0 (events_of (decoder_grammar decoder) bytes) ≡ malformed_of 0 events)

-- The handler of the Standard's encoder gives events for each text, and no others. The bytes of a new encoder for the
-- text are those of the events, with a reference for each error ("process an item", error mode "html").
abbrev pub TextsAreEncodedByHandlers : Type 0
TextsAreEncodedByHandlers =
    (codec : Codec) → HasAcceptedRanges codec → HasPointers codec →
    (text : List ℕ) → AreScalars text →
    (events : List EncodeEvent) × IsOnly (HandlerEncodes codec text) events
    × (referenced_bytes (encoded (new_encoder codec) text true) ≡ referenced_bytes events)
