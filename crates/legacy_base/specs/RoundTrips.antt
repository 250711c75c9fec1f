-- Round trips: a text is encoded, and its bytes are decoded.
use Rattle.std.specs.Prelude.{◌≡◌, ℕ, List, [], ◌∷◌, ◌++◌, drop, get_or, length, map, filter, Bool, true}
use Rattle.std.specs.Prelude.{false, not, ◌&&◌, ◌||◌, ◌==◌, ⊤, All, Some, is_some, unwrap_or, if◌then◌else◌}
use Rattle.std.specs.Option.{option_map_or}
use Rattle.std.specs.List.{list_any}
use Rattle.legacy_base.specs.declared.results.DecodeEvent.TheVariants.{Scalar}
use Rattle.legacy_base.specs.declared.results.EncodeEvent.{EncodeEvent}
use Rattle.legacy_base.specs.declared.results.EncodeEvent.TheVariants.{Byte, Unmappable}
use Rattle.legacy_tables.specs.Unicode.{is_katakana_scalar}
use Rattle.legacy_base.specs.Events.{shift}
use Rattle.legacy_tables.specs.Indexes.{gb18030_pua_of}
use Rattle.legacy_tables.specs.Pointers.{minus_as_hyphen}
use Rattle.legacy_base.specs.Profile.{is_empty}
use Rattle.legacy_base.specs.Gb18030.{gb18030_scalars}
use Rattle.legacy_base.specs.Iso2022Jp.{is_whole_escape, iso_2022_jp_fold}
use Rattle.legacy_base.specs.declared.modes.DecoderMode.TheVariants.{Ascii}
use Rattle.legacy_base.specs.Grammar as grammars
use Rattle.legacy_base.specs.Grammar.{Grammar, events_of}
use Rattle.legacy_base.specs.EucKr as korean
use Rattle.legacy_tables.specs.AcceptedTables.{AcceptedIndexes, AcceptedTable}
use Rattle.legacy_base.specs.Encoders.{Codec, single_byte, user_defined, big5, euc_kr, shift_jis, euc_jp, gb18030, gbk, iso_2022_jp}
use Rattle.legacy_base.specs.Encoders.{new_encoder, code, encoded}

-- the grammar of a codec's decoder with the same lists: GBK is decoded as GB18030, and ISO-2022-JP begins in ASCII mode
abbrev pub grammar_of : Codec → Grammar
grammar_of (single_byte table) = grammars.single_byte table
grammar_of user_defined = grammars.user_defined
grammar_of (big5 index) = grammars.big5 index
grammar_of (euc_kr index) = korean.euc_kr index
grammar_of (shift_jis jis0208) = grammars.shift_jis jis0208
grammar_of (euc_jp jis0208 jis0212) = grammars.euc_jp jis0208 jis0212
grammar_of (gb18030 index ranges pua) = grammars.gb18030 index ranges
grammar_of (gbk index ranges pua) = grammars.gb18030 index ranges
grammar_of (iso_2022_jp jis0208 katakana_index) = grammars.iso_2022_jp jis0208 Ascii

-- The lists of a codec are those of accepted indexes, or of an accepted single-byte table.
abbrev pub HasAcceptedLists : Codec → Type 0
HasAcceptedLists (single_byte table) = (accepted : AcceptedTable) × (table ≡ accepted.entries)
HasAcceptedLists user_defined = ⊤
HasAcceptedLists (big5 index) = (indexes : AcceptedIndexes) × (index ≡ indexes.flat.big5)
HasAcceptedLists (euc_kr index) = (indexes : AcceptedIndexes) × (index ≡ indexes.flat.euc_kr)
HasAcceptedLists (shift_jis jis0208) = (indexes : AcceptedIndexes) × (jis0208 ≡ indexes.flat.jis0208)
HasAcceptedLists (euc_jp jis0208 jis0212) =
    (indexes : AcceptedIndexes) × (jis0208 ≡ indexes.flat.jis0208) × (jis0212 ≡ indexes.flat.jis0212)
HasAcceptedLists (gb18030 index ranges pua) =
    (indexes : AcceptedIndexes)
    × (index ≡ indexes.flat.gb18030) × (ranges ≡ indexes.flat.ranges) × (pua ≡ indexes.flat.gb18030_pua)
HasAcceptedLists (gbk index ranges pua) =
    (indexes : AcceptedIndexes)
    × (index ≡ indexes.flat.gb18030) × (ranges ≡ indexes.flat.ranges) × (pua ≡ indexes.flat.gb18030_pua)
HasAcceptedLists (iso_2022_jp jis0208 katakana_index) =
    (indexes : AcceptedIndexes) × (jis0208 ≡ indexes.flat.jis0208) × (katakana_index ≡ indexes.flat.katakana)

-- ---- folds: scalars that an encoder writes with the bytes of another scalar

-- the yen sign and the overline, which are written as ASCII bytes, and the minus sign, which is written as U+FF0D
abbrev pub is_japanese_fold : ℕ → Bool
is_japanese_fold c = (c == 0xA5 || c == 0x203E) || c == 0x2212

-- the scalar of a private-use row whose bytes do not decode to it
abbrev pub is_private_use_fold : List ℕ → List (ℕ × ℕ × ℕ) → ℕ → Bool
is_private_use_fold index pua c =
    option_map_or (λ row. not (list_any (λ s. s == c) (gb18030_scalars index row.0 row.1))) (gb18030_pua_of pua c) false

-- the folds of a codec; in ISO-2022-JP the minus sign and half-width katakana
abbrev pub is_fold : Codec → ℕ → Bool
is_fold (shift_jis jis0208) c = is_japanese_fold c
is_fold (euc_jp jis0208 jis0212) c = is_japanese_fold c
is_fold (gb18030 index ranges pua) c = is_private_use_fold index pua c
is_fold (gbk index ranges pua) c = is_private_use_fold index pua c
is_fold (iso_2022_jp jis0208 katakana_index) c = c == 0x2212 || is_katakana_scalar c
is_fold _ c = false

-- ---- the law

-- A new encoder writes the text in full as `bytes`, including its end, so no scalar is unmappable. No scalar of the
-- text is a fold.
pub record IsEncodedAs (codec : Codec) (text bytes : List ℕ) : Type 0 where
  pub whole : encoded (new_encoder codec) text true ≡ map Byte bytes
  pub unfolded : list_any (is_fold codec) text ≡ false

-- encoded text decodes to the scalars of the text, with no malformed sequences
abbrev pub RoundTrips : Type 0
RoundTrips =
    (codec : Codec) → HasAcceptedLists codec →
    (text bytes : List ℕ) → IsEncodedAs codec text bytes → events_of (grammar_of codec) bytes ≡ map Scalar text

-- The text that these bytes decode to is encoded as the same bytes.
abbrev pub ReencodesToTheSame : Type 0
ReencodesToTheSame =
    (codec : Codec) → HasAcceptedLists codec →
    (text bytes : List ℕ) → IsEncodedAs codec text bytes →
    (decoded : List ℕ) → events_of (grammar_of codec) bytes ≡ map Scalar decoded →
    encoded (new_encoder codec) decoded true ≡ map Byte bytes

-- ---- escapes in ISO-2022-JP

-- The bytes end in ASCII mode: bytes after them are read as from ASCII mode, if they do not begin with a valid escape.
abbrev pub EndsInAscii : List ℕ → List ℕ → List ℕ → Type 0
EndsInAscii jis0208 text bytes =
    (more : List ℕ) → is_whole_escape more ≡ false →
    events_of (grammars.iso_2022_jp jis0208 Ascii) (bytes ++ more)
    ≡ map Scalar text ++ shift (length bytes) (events_of (grammars.iso_2022_jp jis0208 Ascii) more)

-- the bytes contain a valid escape directly after another one
unfoldable pub holds_adjacent_escapes : List ℕ → Bool
holds_adjacent_escapes [] = false
holds_adjacent_escapes (b ∷ bytes) =
    (is_whole_escape (b ∷ bytes) && is_whole_escape (drop 2 bytes)) || holds_adjacent_escapes bytes

-- encoded text ends in ASCII mode and has no adjacent escapes
abbrev pub EscapesAreInPlace : Type 0
EscapesAreInPlace =
    (jis0208 katakana_index text bytes : List ℕ) → IsEncodedAs (iso_2022_jp jis0208 katakana_index) text bytes →
    EndsInAscii jis0208 text bytes × (holds_adjacent_escapes bytes ≡ false)

-- ---- any text: with folds and unmappable scalars

-- the scalar whose bytes a Japanese fold is written with, and any other scalar itself
abbrev pub japanese_scalar : ℕ → ℕ
japanese_scalar c = if c == 0xA5 then 0x5C else if c == 0x203E then 0x7E else minus_as_hyphen c

-- the scalar of the bytes of c's private-use row, or c itself if it has no row
abbrev pub private_use_scalar : List ℕ → List (ℕ × ℕ × ℕ) → ℕ → ℕ
private_use_scalar index pua c =
    option_map_or (λ row. get_or (gb18030_scalars index row.0 row.1) 0 c) (gb18030_pua_of pua c) c

-- the scalar that the code of c decodes to: c itself, except for folds
abbrev pub read_as : Codec → ℕ → ℕ
read_as (shift_jis jis0208) c = japanese_scalar c
read_as (euc_jp jis0208 jis0212) c = japanese_scalar c
read_as (gb18030 index ranges pua) c = private_use_scalar index pua c
read_as (gbk index ranges pua) c = private_use_scalar index pua c
read_as (iso_2022_jp jis0208 katakana_index) c = unwrap_or (iso_2022_jp_fold katakana_index c) c
read_as _ c = c

-- the text that an encoded text decodes to: for each scalar with a code, the scalar that the code decodes to
abbrev pub read_back : Codec → List ℕ → List ℕ
read_back codec text = map (read_as codec) (filter (λ c. is_some (code (new_encoder codec) c)) text)

-- the bytes among events
unfoldable pub bytes_of : List EncodeEvent → List ℕ
bytes_of [] = []
bytes_of (Byte b ∷ events) = b ∷ bytes_of events
bytes_of (Unmappable c ∷ events) = bytes_of events

-- the bytes that a new encoder writes for a text with its end, without unmappable scalars
abbrev pub written : Codec → List ℕ → List ℕ
written codec text = bytes_of (encoded (new_encoder codec) text true)

-- c has a private-use row whose bytes have no scalar in the index
abbrev pub has_lost_row : List ℕ → List (ℕ × ℕ × ℕ) → ℕ → Bool
has_lost_row index pua c =
    option_map_or (λ row. is_empty (gb18030_scalars index row.0 row.1)) (gb18030_pua_of pua c) false

-- The condition for well-formed bytes. In GB18030 and GBK no scalar of the text has a row whose bytes have no scalar.
-- In ISO-2022-JP no two escapes are adjacent, which only unmappable scalars can cause. In other codecs there is no
-- condition.
abbrev pub IsSound : Codec → List ℕ → Type 0
IsSound (gb18030 index ranges pua) text = list_any (has_lost_row index pua) text ≡ false
IsSound (gbk index ranges pua) text = list_any (has_lost_row index pua) text ≡ false
IsSound (iso_2022_jp jis0208 katakana_index) text = holds_adjacent_escapes (written (iso_2022_jp jis0208 katakana_index) text) ≡ false
IsSound _ text = ⊤

-- Encoded text is well formed, also with unmappable scalars and folds. Its bytes decode to `read_back` of the text,
-- with no malformed sequences.
abbrev pub EncodesWellFormed : Type 0
EncodesWellFormed =
    (codec : Codec) → HasAcceptedLists codec →
    (text : List ℕ) → IsSound codec text →
    events_of (grammar_of codec) (written codec text) ≡ map Scalar (read_back codec text)

-- if c has a code, the scalar that it decodes to has the same code
abbrev pub HasSameCode : Codec → ℕ → Type 0
HasSameCode codec c =
    (bytes : List ℕ) → code (new_encoder codec) c ≡ Some bytes → code (new_encoder codec) (read_as codec c) ≡ Some bytes

-- The scalars that a text decodes to have the same codes as its scalars. This is a condition only in codecs whose folds
-- depend on a table.
abbrev pub KeepsCodes : Codec → List ℕ → Type 0
KeepsCodes (gb18030 index ranges pua) text = All (HasSameCode (gb18030 index ranges pua)) text
KeepsCodes (gbk index ranges pua) text = All (HasSameCode (gbk index ranges pua)) text
KeepsCodes (iso_2022_jp jis0208 katakana_index) text = All (HasSameCode (iso_2022_jp jis0208 katakana_index)) text
KeepsCodes _ text = ⊤

-- The bytes of a text decode to a text that is encoded as the same bytes, also with unmappable scalars and folds.
abbrev pub ReencodesAnyText : Type 0
ReencodesAnyText =
    (codec : Codec) → HasAcceptedLists codec →
    (text : List ℕ) → IsSound codec text → KeepsCodes codec text →
    (decoded : List ℕ) → events_of (grammar_of codec) (written codec text) ≡ map Scalar decoded →
    encoded (new_encoder codec) decoded true ≡ map Byte (written codec text)

-- In ISO-2022-JP no two escapes are adjacent if no scalar is unmappable, also with folds.
abbrev pub EscapesStayApart : Type 0
EscapesStayApart =
    (jis0208 katakana_index text bytes : List ℕ) →
    encoded (new_encoder (iso_2022_jp jis0208 katakana_index)) text true ≡ map Byte bytes →
    holds_adjacent_escapes bytes ≡ false
