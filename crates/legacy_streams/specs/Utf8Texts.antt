-- The text of bytes that should be UTF-8.
use Rattle.std.specs.Prelude.{◌≡◌, ℕ, List, ◌++◌, length, drop, None, IsUtf8}
use Rattle.std.specs.Str.{chars}
use Rattle.std.specs.Str.Lossy.{utf8_lossy, utf8_valid_len, utf8_invalid_len, utf8_error_len}

-- the scalars of bytes in UTF-8, with U+FFFD for each malformed sequence ("UTF-8 decoder", error mode "replacement")
unfoldable pub lossy_text : List ℕ → List ℕ
lossy_text bytes = chars (utf8_lossy bytes)

-- There are no bytes, or they are a beginning of one character, and not all of it.
pub record IsCutCharacter (bytes : List ℕ) : Type 0 where
  pub no_text : utf8_valid_len bytes ≡ 0
  pub not_malformed : utf8_error_len bytes ≡ None

-- The first chunk of bytes: the longest text at their front, and the sequence after it that is malformed or cut.
pub record IsChunk (bytes valid invalid : List ℕ) : Type 0 where
  pub later : List ℕ
  pub parts : bytes ≡ valid ++ (invalid ++ later)
  pub utf8 : IsUtf8 valid
  pub valid_len : length valid ≡ utf8_valid_len bytes
  pub invalid_len : length invalid ≡ utf8_invalid_len (drop (utf8_valid_len bytes) bytes)
  pub whole : length invalid ≡ 0 → length later ≡ 0
