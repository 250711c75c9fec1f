-- What a registry of encodings does by their labels, over the index data that it owns.
use Rattle.std.specs.Prelude.{◌≡◌, ◌≢◌, ℕ, List, [], ◌∷◌, ◌++◌, length, map, Option, Some, None, Bool, true, false, find, option_map, bytes_eq, if◌then◌else◌}
use Rattle.std.specs.Option.{is_some}
use Rattle.std.specs.List.{list_all}
use Rattle.std.specs.Str.{chars, IsUtf8}
use Rattle.legacy_base.specs.Grammar.{events_of}
use Rattle.legacy_base.specs.States.{DecoderState}
use Rattle.legacy_base.specs.Encoders.{EncoderState, encoded}
use Rattle.legacy_base.specs.Lengths.{query_answer, to_utf8}
use Rattle.legacy_codecs.specs.References.{referenced_bytes, has_unmappable}
use Rattle.legacy_codecs.specs.Replacing.{has_malformed}
use Rattle.legacy_codecs.specs.WholeTexts.{text_of}
use Rattle.legacy_codecs.specs.declared.whole.SizedError.TheVariants.{TooLong, Memory}
use Rattle.legacy_index_files.specs.declared.codec.Codec.TheVariants as codec
use Rattle.legacy_index_files.specs.declared.encodings.Encoding.{Encoding}
use Rattle.legacy_index_files.specs.declared.index_file.EncoderIndex.{EncoderIndex}
use Rattle.legacy_index_files.specs.declared.index_file.EncoderIndex.TheVariants.{Of, Katakana}
use Rattle.legacy_index_files.specs.declared.index_file.FileIndex.TheVariants.{Big5, EucKr, Jis0208, Jis0212, Gb18030, Ranges, SingleByte}
use Rattle.legacy_index_files.specs.Encodings.{encoding_name, codec_of, has_encoder, indexes_of, encoder_indexes_of}
use Rattle.legacy_index_files.specs.Labels.{encoding_labelled}
use Rattle.legacy_coders.specs.Coders.{decoder_of, encoder_of}
use Rattle.legacy_encodings.specs.declared.read_indexes.ReadIndexes.{ReadIndexes}
use Rattle.legacy_encodings.specs.declared.registry.Coders.{Coders}
use Rattle.legacy_encodings.specs.declared.registry.EncodingTable.{EncodingTable}
use Rattle.legacy_encodings.specs.declared.registry.OutputEncoding.{OutputEncoding}
use Rattle.legacy_encodings.specs.declared.registry.OutputEncoding.TheVariants.{Utf8, Legacy}
use Rattle.legacy_encodings.specs.declared.registry.RegistryError.{RegistryError}
use Rattle.legacy_encodings.specs.declared.registry.RegistryError.TheVariants.{Unknown, NoIndex, Sized}
use Rattle.legacy_encodings.specs.declared.registry.TranscodeError.{TranscodeError}
use Rattle.legacy_encodings.specs.declared.registry.TranscodeError.TheVariants.{From, To, NoEncoder}
use Rattle.legacy_encodings.specs.SingleByteFiles.{IsSingleByteFile}

-- ---- which indexes were read

-- the entries of the first table of an encoding
abbrev pub first_entries : List EncodingTable → Encoding → Option (List ℕ)
first_entries tables encoding =
    option_map (λ t. t.table.entries) (find (λ t. bytes_eq (encoding_name t.encoding) (encoding_name encoding)) tables)

-- The table that the text of an index file gives passed the check, and comes before the other tables.
pub record IsReadTable (encoding : Encoding) (text : List ℕ) (before after : List EncodingTable) : Type 0 where
  pub table : EncodingTable
  pub of : table.encoding ≡ encoding
  pub of_file : IsSingleByteFile text table.table.entries
  pub first : after ≡ table ∷ before
  pub single_byte : codec_of encoding ≡ codec.SingleByte

-- an index of multi-byte encodings was read
abbrev pub is_read : ReadIndexes → EncoderIndex → Bool
is_read read (Of Big5) = read.big5
is_read read (Of EucKr) = read.euc_kr
is_read read (Of Jis0208) = read.jis0208
is_read read (Of Jis0212) = read.jis0212
is_read read (Of Gb18030) = read.gb18030
is_read read (Of Ranges) = read.ranges
is_read read (Of SingleByte) = false
is_read read Katakana = read.katakana

-- the same after one more was read
abbrev pub with_read : ReadIndexes → EncoderIndex → ReadIndexes
with_read read (Of Big5) = record read { big5 = true }
with_read read (Of EucKr) = record read { euc_kr = true }
with_read read (Of Jis0208) = record read { jis0208 = true }
with_read read (Of Jis0212) = record read { jis0212 = true }
with_read read (Of Gb18030) = record read { gb18030 = true }
with_read read (Of Ranges) = record read { ranges = true }
with_read read (Of SingleByte) = read
with_read read Katakana = record read { katakana = true }

-- no index was read
abbrev pub nothing_read : ReadIndexes
nothing_read = record { big5 = false; euc_kr = false; jis0208 = false; jis0212 = false; gb18030 = false; ranges = false; katakana = false }

-- an index of an encoding was read: that of a single-byte encoding is its own table
abbrev pub was_read : Coders → Encoding → EncoderIndex → Bool
was_read coders encoding (Of SingleByte) = is_some (first_entries coders.single_bytes.now encoding)
was_read coders encoding index = is_read coders.read index

-- the indexes were read that the decoder of the encoding needs, and its encoder
abbrev pub can_decode : Coders → Encoding → Bool
can_decode coders encoding = list_all (λ index. was_read coders encoding (Of index)) (indexes_of (codec_of encoding))

abbrev pub can_encode : Coders → Encoding → Bool
can_encode coders encoding = list_all (was_read coders encoding) (encoder_indexes_of (codec_of encoding))

-- ---- coders by label

-- a new decoder of the encoding is in this state; a single-byte encoding whose table was not read has none
abbrev pub decoder_for : Coders → Encoding → Option DecoderState
decoder_for coders encoding = decoder_of (codec_of encoding) coders.tables.flat (first_entries coders.single_bytes.now encoding)

-- a new decoder of the encoding with the label is in this state, over indexes that were read
pub record IsDecoderOf (coders : Coders) (label : List ℕ) (state : DecoderState) : Type 0 where
  pub encoding : Encoding
  pub labelled : encoding_labelled label ≡ Some encoding
  pub read : can_decode coders encoding ≡ true
  pub made : decoder_for coders encoding ≡ Some state

-- the error if there is no coder of the label: no encoding has it, or an index was not read
abbrev pub IsLabelError : (Encoding → Bool) → List ℕ → RegistryError → Type 0
IsLabelError can label Unknown = encoding_labelled label ≡ None
IsLabelError can label NoIndex = (encoding : Encoding) × (encoding_labelled label ≡ Some encoding) × (can encoding ≡ false)
IsLabelError can label _ = ⊥

-- A new encoder of the encoding is in this state. There is none if the output encoding is UTF-8 (Encoding Standard, "get
-- an output encoding"), or if the table of a single-byte encoding was not read.
abbrev pub encoder_for : Coders → Encoding → Option EncoderState
encoder_for coders encoding = encoder_of (codec_of encoding) coders.tables.flat (first_entries coders.single_bytes.now encoding)

-- A new encoder of the encoding with the label is in this state, over indexes that were read, or its output encoding is
-- UTF-8 and there is none.
pub record IsEncoderOf (coders : Coders) (label : List ℕ) (output : Option EncoderState) : Type 0 where
  pub encoding : Encoding
  pub labelled : encoding_labelled label ≡ Some encoding
  pub read : can_encode coders encoding ≡ true
  pub made : encoder_for coders encoding ≡ output

-- the output encoding of an encoding ("get an output encoding")
abbrev pub output_of : Encoding → OutputEncoding
output_of encoding = if has_encoder (codec_of encoding) then Legacy encoding else Utf8

-- ---- whole inputs and texts

-- The characters of the input by the encoding of the label. `replaced` is whether it has a malformed sequence.
pub record IsText (coders : Coders) (label input text : List ℕ) (replaced : Bool) : Type 0 where
  pub state : DecoderState
  pub decoder : IsDecoderOf coders label state
  pub short : query_answer to_utf8 state (length input) ≢ None
  pub decodes : text ≡ text_of state input
  pub told : replaced ≡ has_malformed (events_of state.grammar (state.held ++ input))

-- the length query of a new decoder of the label returns `None` for the input
pub record HasNoLength (coders : Coders) (label input : List ℕ) : Type 0 where
  pub state : DecoderState
  pub decoder : IsDecoderOf coders label state
  pub too_long : query_answer to_utf8 state (length input) ≡ None

-- the error if an input was not decoded; an allocation can fail if there is a decoder and a length
abbrev pub IsDecodeError : Coders → List ℕ → List ℕ → RegistryError → Type 0
IsDecodeError coders label input (Sized TooLong) = HasNoLength coders label input
IsDecodeError coders label input (Sized Memory) =
    (state : DecoderState) × IsDecoderOf coders label state × (query_answer to_utf8 state (length input) ≢ None)
IsDecodeError coders label input error = IsLabelError (can_decode coders) label error

-- the bytes of a text by an encoder up to its end, with references, or in UTF-8 if there is none
unfoldable pub bytes_by : Option EncoderState → List ℕ → List ℕ
bytes_by None text = text
bytes_by (Some state) text = referenced_bytes (encoded state (chars text) true)

-- some character of the text has no bytes, so a reference is written
unfoldable pub replaced_by : Option EncoderState → List ℕ → Bool
replaced_by None text = false
replaced_by (Some state) text = has_unmappable (encoded state (chars text) true)

-- The bytes of the text by the encoding of the label, in its output encoding. `replaced` is whether a reference is among
-- them.
pub record AreEncodedBytes (coders : Coders) (label text bytes : List ℕ) (output : OutputEncoding) (replaced : Bool) : Type 0 where
  pub state : Option EncoderState
  pub encoder : IsEncoderOf coders label state
  pub encodes : bytes ≡ bytes_by state text
  pub of : output ≡ output_of encoder.encoding
  pub told : replaced ≡ replaced_by state text

-- the error if a text was not encoded; an allocation can fail if there is an encoder or none is needed
abbrev pub IsEncodeError : Coders → List ℕ → RegistryError → Type 0
IsEncodeError coders label (Sized TooLong) = ⊥
IsEncodeError coders label (Sized Memory) = (state : Option EncoderState) × IsEncoderOf coders label state
IsEncodeError coders label error = IsLabelError (can_encode coders) label error

-- ---- from one encoding to another

-- The bytes are a text in the encoding of the second label, whose characters are those of the input in that of the first.
-- The flags are whether the input has a malformed sequence, and whether a reference is among the bytes.
pub record IsTranscoded (coders : Coders) (from to input bytes : List ℕ) (malformed unmappable : Bool) : Type 0 where
  pub text : List ℕ
  -- its characters then determine the text: `chars` says nothing of the bytes of a text that is ill-formed
  pub utf8 : IsUtf8 text
  pub decoded : IsText coders from input (chars text) malformed
  pub state : EncoderState
  pub encoder : IsEncoderOf coders to (Some state)
  pub encoded : bytes ≡ bytes_by (Some state) text
  pub told : unmappable ≡ replaced_by (Some state) text

-- The error if an input was not transcoded. The second encoding is asked for first, so the first one is to blame only if
-- the second has an encoder. An allocation for the second can fail if the input was decoded.
abbrev pub IsTranscodeError : Coders → List ℕ → List ℕ → List ℕ → TranscodeError → Type 0
IsTranscodeError coders from to input NoEncoder = IsEncoderOf coders to None
IsTranscodeError coders from to input (To (Sized Memory)) =
    ((state : EncoderState) × IsEncoderOf coders to (Some state))
    × ((text : List ℕ) × ((replaced : Bool) × IsText coders from input text replaced))
IsTranscodeError coders from to input (To error) = IsLabelError (can_encode coders) to error
IsTranscodeError coders from to input (From error) =
    ((state : EncoderState) × IsEncoderOf coders to (Some state)) × IsDecodeError coders from input error
