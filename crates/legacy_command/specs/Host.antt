-- The programs on a host.
use Rattle.std.specs.Prelude.{◌≡◌, ◌≤◌, ℕ, List, Option}
use Rattle.legacy_index_files.specs.declared.codec.Codec.{Codec}
use Rattle.legacy_command.specs.declared.host.Program.{Program}
use Rattle.legacy_command.specs.declared.host.Program.TheVariants.{Recode, Encode}
use Rattle.legacy_command.specs.Words.{words_after_option, codec_of_words}
use Rattle.legacy_command.specs.Program.{with_encoder, RecodesByWords, RecodingStops, EncodesByWords, EncodingStops}

-- the codec of words that have the program's form
abbrev pub codec_asked : Program → List (List ℕ) → Option Codec
codec_asked Recode words = codec_of_words (words_after_option words)
codec_asked Encode words = with_encoder (codec_of_words words)

-- the whole input was recoded, or encoded, as the words and files ask
abbrev pub IsDoneBy : Program → List (List ℕ) → List (Option (List ℕ)) → Option (List ℕ) → Option (List ℕ) → Option (List ℕ) → Option (List ℕ) → Type 0
IsDoneBy Recode words files input_old input_new output_old output_new = RecodesByWords words files input_old input_new output_old output_new
IsDoneBy Encode words files input_old input_new output_old output_new = EncodesByWords words files input_old input_new output_old output_new

-- This is so by some words and files. No clause of std says which ones a host has.
pub record BySome (By : List (List ℕ) → List (Option (List ℕ)) → Type 0) : Type 0 where
  pub words : List (List ℕ)
  pub files : List (Option (List ℕ))
  pub by : By words files

abbrev pub IsDone : Program → Option (List ℕ) → Option (List ℕ) → Option (List ℕ) → Option (List ℕ) → Type 0
IsDone program input_old input_new output_old output_new = BySome (λ words files. IsDoneBy program words files input_old input_new output_old output_new)

-- nothing was read or written, or what was written is a beginning of what the words and files ask
abbrev pub IsStoppedBy : Program → List (List ℕ) → List (Option (List ℕ)) → Option (List ℕ) → Option (List ℕ) → Option (List ℕ) → Option (List ℕ) → Type 0
IsStoppedBy Recode words files input_old input_new output_old output_new = RecodingStops words files input_old input_new output_old output_new
IsStoppedBy Encode words files input_old input_new output_old output_new = EncodingStops words files input_old input_new output_old output_new

abbrev pub IsStopped : Program → Option (List ℕ) → Option (List ℕ) → Option (List ℕ) → Option (List ℕ) → Type 0
IsStopped program input_old input_new output_old output_new =
    BySome (λ words files. IsStoppedBy program words files input_old input_new output_old output_new)

-- What the program's status says of the streams. With status 2 `IsUnread` is true, and with status 0 `IsSilent`.
pub record StatusSays (program : Program) (status : ℕ) (input_old input_new output_old output_new : Option (List ℕ)) (IsUnread IsSilent : Type 0) : Type 0 where
  pub statuses : status ≤ 2
  pub unread : status ≡ 2 → IsUnread
  pub done : status ≡ 0 → IsDone program input_old input_new output_old output_new
  pub stops : status ≡ 1 → IsStopped program input_old input_new output_old output_new
  pub silent : status ≡ 0 → IsSilent
