-- The work of the programs.
use Rattle.std.specs.Prelude.{◌≡◌, ◌⊎◌, ℕ, List, [], drop, Bool, Option, Some, None, if◌then◌else◌}
use Rattle.legacy_base.specs.States.{DecoderState}
use Rattle.legacy_base.specs.Encoders.{EncoderState}
use Rattle.legacy_tables.specs.Indexes.{FlatIndexes}
use Rattle.legacy_tables.specs.AcceptedTables.{flat_lists}
use Rattle.legacy_tables.specs.declared.tables.private_use.TheConstants.{GB18030_2022_PUA}
use Rattle.legacy_tables.specs.TableChecks.{AreAccepted, IsAcceptedTable}
use Rattle.legacy_index_files.specs.declared.codec.Codec.{Codec}
use Rattle.legacy_index_files.specs.Encodings.{has_encoder}
use Rattle.legacy_coders.specs.Coders.{decoder_of, encoder_of}
use Rattle.legacy_index_files.specs.declared.index_file.FileIndex.{FileIndex}
use Rattle.legacy_index_files.specs.declared.owned_indexes.OwnedIndexes.{OwnedIndexes}
use Rattle.legacy_index_files.specs.OwnedIndexes.{HoldsTexts}
use Rattle.legacy_command.specs.declared.words.OutputKind.{OutputKind}
use Rattle.legacy_command.specs.declared.words.OutputKind.TheVariants.{Lines, Text}
use Rattle.legacy_command.specs.Words.{output_kind, words_after_option, codec_of_words}
use Rattle.legacy_command.specs.GivenTexts.{text_given, AreWellFormed}
use Rattle.legacy_streams.specs.Recoding.{RecodesAll, RecodesBeginning, RecodesPartly}
use Rattle.legacy_streams.specs.Text.{WritesAll, WritesBeginning, WritesPartly}
use Rattle.legacy_streams.specs.TextEncoding.{EncodesAll, EncodesBeginning, EncodesPartly}

-- The input was read to its end, and the lines of all its events, or its text, were written, from a decoder in this
-- state.
abbrev pub RecodesInput : OutputKind → DecoderState → Option (List ℕ) → Option (List ℕ) → Option (List ℕ) → Option (List ℕ) → Type 0
RecodesInput Lines before input_old input_new output_old output_new =
    (after : DecoderState) × RecodesAll before after input_old input_new output_old output_new
RecodesInput Text before input_old input_new output_old output_new =
    (after : DecoderState) × ((found : Bool) × WritesAll before after found input_old input_new output_old output_new)

-- What was written is a beginning of that, which may end inside a line or a scalar, or all of it.
abbrev pub RecodesSome : OutputKind → DecoderState → Option (List ℕ) → Option (List ℕ) → Option (List ℕ) → Option (List ℕ) → Type 0
RecodesSome Lines before input_old input_new output_old output_new =
    (after : DecoderState) × (RecodesAll before after input_old input_new output_old output_new
    ⊎ (RecodesBeginning before after input_old input_new output_old output_new ⊎ RecodesPartly before after input_old input_new output_old output_new))
RecodesSome Text before input_old input_new output_old output_new =
    (after : DecoderState) × (((found : Bool) × WritesAll before after found input_old input_new output_old output_new)
    ⊎ (WritesBeginning before after input_old input_new output_old output_new ⊎ WritesPartly before after input_old input_new output_old output_new))

-- nothing was read or written
abbrev pub Untouched : Option (List ℕ) → Option (List ℕ) → Option (List ℕ) → Option (List ℕ) → Type 0
Untouched input_old input_new output_old output_new = (input_new ≡ input_old) × (output_new ≡ output_old)

-- the flat lists of indexes; without a file the katakana index is empty, and the private-use rows are the fixed ones
abbrev pub flat_of : OwnedIndexes → FlatIndexes
flat_of tables =
    flat_lists tables.big5.items tables.euc_kr.items tables.jis0208.items tables.jis0212.items tables.gb18030.items [] tables.ranges.items
    GB18030_2022_PUA

-- All indexes passed the check, also those that the codec does not use, and `Work` is true of the state of the codec's new
-- decoder or encoder over them, which `coder_of` gives.
pub record WorksByTables {State : Type 0} (coder_of : Codec → FlatIndexes → Option (List ℕ) → Option State) (codec : Codec) (tables : OwnedIndexes)
    (Work : State → Type 0) : Type 0 where
  pub accepted : AreAccepted (flat_of tables)
  pub accepted_table : IsAcceptedTable tables.single_byte
  pub before : State
  pub made : coder_of codec (flat_of tables) (Some tables.single_byte) ≡ Some before
  pub works : Work before

-- The same over the indexes of these texts.
pub record WorksByTexts {State : Type 0} (coder_of : Codec → FlatIndexes → Option (List ℕ) → Option State) (codec : Codec) (texts : FileIndex → List ℕ)
    (Work : State → Type 0) : Type 0 where
  pub tables : OwnedIndexes
  pub holds : HoldsTexts texts tables
  pub by : WorksByTables coder_of codec tables Work

-- The same by the codec that words name, and the index files after it. Each of these files could be read and has no
-- malformed line.
pub record WorksWith {State : Type 0} (coder_of : Codec → FlatIndexes → Option (List ℕ) → Option State) (asked : Option Codec) (words : List (List ℕ))
    (files : List (Option (List ℕ))) (Work : State → Type 0) : Type 0 where
  pub codec : Codec
  pub named : asked ≡ Some codec
  pub well_formed : AreWellFormed (drop 1 words) files
  pub by : WorksByTexts coder_of codec (text_given (drop 1 words) files) Work

-- ---- decoding

abbrev pub DecodesByTables : Codec → OwnedIndexes → (DecoderState → Type 0) → Type 0
DecodesByTables codec tables Work = WorksByTables decoder_of codec tables Work

abbrev pub DecodesByTexts : Codec → (FileIndex → List ℕ) → (DecoderState → Type 0) → Type 0
DecodesByTexts codec texts Work = WorksByTexts decoder_of codec texts Work

-- by the command line, which may begin with `--text`
abbrev pub DecodesWith : List (List ℕ) → List (Option (List ℕ)) → (OutputKind → DecoderState → Type 0) → Type 0
DecodesWith words files Work = WorksWith decoder_of (codec_of_words (words_after_option words)) (words_after_option words) files (Work (output_kind words))

-- the whole input was recoded as the words and files ask
abbrev pub RecodesByWords : List (List ℕ) → List (Option (List ℕ)) → Option (List ℕ) → Option (List ℕ) → Option (List ℕ) → Option (List ℕ) → Type 0
RecodesByWords words files input_old input_new output_old output_new =
    DecodesWith words files (λ kind before. RecodesInput kind before input_old input_new output_old output_new)

-- nothing was read or written, or what was written is a beginning of what the words and files ask
abbrev pub RecodingStops : List (List ℕ) → List (Option (List ℕ)) → Option (List ℕ) → Option (List ℕ) → Option (List ℕ) → Option (List ℕ) → Type 0
RecodingStops words files input_old input_new output_old output_new =
    Untouched input_old input_new output_old output_new
    ⊎ DecodesWith words files (λ kind before. RecodesSome kind before input_old input_new output_old output_new)

-- ---- encoding

-- the codec of words that are CODEC, one that has an encoder, and then INDEX and FILE any number of times
abbrev pub with_encoder : Option Codec → Option Codec
with_encoder None = None
with_encoder (Some codec) = if has_encoder codec then Some codec else None

-- The input was read to its end, and the bytes and references of its text were written, from an encoder in this state.
abbrev pub EncodesInput : EncoderState → Option (List ℕ) → Option (List ℕ) → Option (List ℕ) → Option (List ℕ) → Type 0
EncodesInput before input_old input_new output_old output_new = (after : EncoderState) × EncodesAll before after input_old input_new output_old output_new

-- What was written is a beginning of that, which may end inside a sequence, or all of it.
abbrev pub EncodesSome : EncoderState → Option (List ℕ) → Option (List ℕ) → Option (List ℕ) → Option (List ℕ) → Type 0
EncodesSome before input_old input_new output_old output_new =
    (after : EncoderState) × (EncodesAll before after input_old input_new output_old output_new
    ⊎ (EncodesBeginning before after input_old input_new output_old output_new ⊎ EncodesPartly before after input_old input_new output_old output_new))

abbrev pub EncodesByTables : Codec → OwnedIndexes → (EncoderState → Type 0) → Type 0
EncodesByTables codec tables Work = WorksByTables encoder_of codec tables Work

abbrev pub EncodesByTexts : Codec → (FileIndex → List ℕ) → (EncoderState → Type 0) → Type 0
EncodesByTexts codec texts Work = WorksByTexts encoder_of codec texts Work

-- by the program's words
abbrev pub EncodesWith : List (List ℕ) → List (Option (List ℕ)) → (EncoderState → Type 0) → Type 0
EncodesWith words files Work = WorksWith encoder_of (with_encoder (codec_of_words words)) words files Work

-- the whole input was encoded as the words and files ask
abbrev pub EncodesByWords : List (List ℕ) → List (Option (List ℕ)) → Option (List ℕ) → Option (List ℕ) → Option (List ℕ) → Option (List ℕ) → Type 0
EncodesByWords words files input_old input_new output_old output_new =
    EncodesWith words files (λ before. EncodesInput before input_old input_new output_old output_new)

-- nothing was read or written, or what was written is a beginning of what the words and files ask
abbrev pub EncodingStops : List (List ℕ) → List (Option (List ℕ)) → Option (List ℕ) → Option (List ℕ) → Option (List ℕ) → Option (List ℕ) → Type 0
EncodingStops words files input_old input_new output_old output_new =
    Untouched input_old input_new output_old output_new
    ⊎ EncodesWith words files (λ before. EncodesSome before input_old input_new output_old output_new)
