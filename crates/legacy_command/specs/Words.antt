-- The words of the command line: optionally `--text`, then CODEC, then INDEX and FILE any number of times.
use Rattle.std.specs.Prelude.{ℕ, List, [], ◌∷◌, drop, map, Option, Some, None, is_some, Bool, true, false, not, ◌&&◌, ◌||◌, codes, bytes_eq, if◌then◌else◌}
use Rattle.std.specs.Borrow.{Bor}
use Rattle.legacy_index_files.specs.declared.index_file.FileIndex.{FileIndex}
use Rattle.legacy_index_files.specs.declared.index_file.FileIndex.TheVariants as index
use Rattle.legacy_index_files.specs.declared.codec.Codec.{Codec}
use Rattle.legacy_index_files.specs.declared.codec.Codec.TheVariants as codec
use Rattle.legacy_command.specs.declared.words.OutputKind.{OutputKind}
use Rattle.legacy_command.specs.declared.words.OutputKind.TheVariants.{Lines, Text}

-- the text of each word
abbrev pub texts_of : List (Bor (List ℕ)) → List (List ℕ)
texts_of words = map (λ w. w.now) words

-- the words begin with `--text`
abbrev pub wants_text : List (List ℕ) → Bool
wants_text [] = false
wants_text (word ∷ words) = bytes_eq word (codes "--text")

-- the kind of output
abbrev pub output_kind : List (List ℕ) → OutputKind
output_kind words = if wants_text words then Text else Lines

-- the words without a leading `--text`
abbrev pub words_after_option : List (List ℕ) → List (List ℕ)
words_after_option words = if wants_text words then drop 1 words else words

-- the meaning of a word in a table
abbrev pub meaning : {A : Type 0} → List (List ℕ × A) → List ℕ → Option A
meaning [] word = None
meaning (entry ∷ entries) word = if bytes_eq word entry.0 then Some entry.1 else meaning entries word

-- the codec that a word names
abbrev pub codec_named : List ℕ → Option Codec
codec_named = meaning (
    (codes "x-user-defined", codec.UserDefined)
    ∷ (codes "replacement", codec.Replacement)
    ∷ (codes "single-byte", codec.SingleByte)
    ∷ (codes "utf-16le", codec.Utf16Le)
    ∷ (codes "utf-16be", codec.Utf16Be)
    ∷ (codes "big5", codec.Big5)
    ∷ (codes "euc-kr", codec.EucKr)
    ∷ (codes "shift_jis", codec.ShiftJis)
    ∷ (codes "euc-jp", codec.EucJp)
    ∷ (codes "gb18030", codec.Gb18030)
    ∷ (codes "gbk", codec.Gbk)
    ∷ (codes "iso-2022-jp", codec.Iso2022Jp)
    ∷ [])

-- the index that a word names
abbrev pub index_named : List ℕ → Option FileIndex
index_named = meaning (
    (codes "big5", index.Big5)
    ∷ (codes "euc-kr", index.EucKr)
    ∷ (codes "jis0208", index.Jis0208)
    ∷ (codes "jis0212", index.Jis0212)
    ∷ (codes "gb18030", index.Gb18030)
    ∷ (codes "ranges", index.Ranges)
    ∷ (codes "single-byte", index.SingleByte)
    ∷ [])

-- the index that the first word names
abbrev pub first_index_named : List (List ℕ) → Option FileIndex
first_index_named [] = None
first_index_named (word ∷ words) = index_named word

-- a word is one of the INDEX words among these, which are INDEX and FILE any number of times
abbrev pub stands_among : List ℕ → List (List ℕ) → Bool
stands_among word (name ∷ file ∷ words) = bytes_eq name word || stands_among word words
stands_among word _ = false

-- the words are INDEX and FILE any number of times, each INDEX names an index, and no index is named twice
abbrev pub are_indexes : List (List ℕ) → Bool
are_indexes [] = true
are_indexes (word ∷ []) = false
are_indexes (name ∷ file ∷ words) = is_some (index_named name) && not (stands_among name words) && are_indexes words

-- the codec of words that are CODEC, and then INDEX and FILE any number of times
abbrev pub codec_of_words : List (List ℕ) → Option Codec
codec_of_words [] = None
codec_of_words (word ∷ words) = if are_indexes words then codec_named word else None
