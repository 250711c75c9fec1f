-- The law of encoders: the handlers give the events of the definitions.
use Rattle.std.specs.Prelude.{◌≡◌, ℕ, ◌-◌, ◌==◌, ◌||◌, List, Some, None, Bool, true, false, not, is_some, ⊤}
use Rattle.std.specs.Int.{is_in_range}
use Rattle.std.specs.Char.{is_ascii, IsScalar}
use Rattle.legacy_base.specs.declared.results.EncodeEvent.{EncodeEvent}
use Rattle.legacy_tables.specs.Indexes.{idx, gb18030_pua_of}
use Rattle.legacy_tables.specs.Unicode.{AreScalars}
use Rattle.legacy_tables.specs.Pointers.{index_pointer_of, shift_jis_pointer_of, euc_jp_pointer_of, range_pointer_of}
use Rattle.legacy_tables.specs.TableChecks.{range_order_fault, range_value_fault}
use Rattle.legacy_base.specs.Encoders.{Codec, single_byte, user_defined, big5, euc_kr, shift_jis, euc_jp, gb18030, gbk, iso_2022_jp, new_encoder, encoded}
use Rattle.legacy_standard.specs.TextQueue.{by_scalar, Encodes}
use Rattle.legacy_standard.specs.SingleByteEncoder.{single_byte_encodes}
use Rattle.legacy_standard.specs.UserDefinedEncoder.{user_defined_encodes}
use Rattle.legacy_standard.specs.EucKrEncoder.{euc_kr_encodes}
use Rattle.legacy_standard.specs.Big5Encoder.{big5_encodes}
use Rattle.legacy_standard.specs.ShiftJisEncoder.{shift_jis_encodes}
use Rattle.legacy_standard.specs.EucJpEncoder.{euc_jp_encodes}
use Rattle.legacy_standard.specs.Gb18030Encoder.{gb18030_encodes}
use Rattle.legacy_standard.specs.Iso2022JpEncoder.{ascii, iso_2022_jp_encodes}

-- the handler finishes over this text, and its bytes and errors are these events
abbrev pub HandlerEncodes : Codec → List ℕ → List EncodeEvent → Type 0
HandlerEncodes (single_byte table) text events = Encodes (by_scalar (single_byte_encodes table)) tt text events
HandlerEncodes user_defined text events = Encodes (by_scalar user_defined_encodes) tt text events
HandlerEncodes (big5 index) text events = Encodes (by_scalar (big5_encodes index)) tt text events
HandlerEncodes (euc_kr index) text events = Encodes (by_scalar (euc_kr_encodes index)) tt text events
HandlerEncodes (shift_jis jis0208) text events = Encodes (by_scalar (shift_jis_encodes jis0208)) tt text events
HandlerEncodes (euc_jp jis0208 jis0212) text events = Encodes (by_scalar (euc_jp_encodes jis0208)) tt text events
HandlerEncodes (gb18030 index ranges pua) text events = Encodes (by_scalar (gb18030_encodes false index ranges pua)) tt text events
HandlerEncodes (gbk index ranges pua) text events = Encodes (by_scalar (gb18030_encodes true index ranges pua)) tt text events
HandlerEncodes (iso_2022_jp jis0208 katakana_index) text events = Encodes (iso_2022_jp_encodes jis0208 katakana_index) ascii text events

-- ---- pointers that the Standard's own indexes have, and other tables can lack

-- each scalar with a pointer in index jis0208 has its first one in the 94 rows of 94, and U+FF0D has one
pub record HasRows (jis0208 : List ℕ) : Type 0 where
  pub first : (c : ℕ) → index_pointer_of jis0208 c ≡ euc_jp_pointer_of jis0208 c
  pub hyphen : is_some (euc_jp_pointer_of jis0208 0xFF0D) ≡ true

-- the ISO-2022-JP encoder looks up the scalar without replacing it
abbrev pub is_looked_up : ℕ → Bool
is_looked_up c = not ((is_ascii c || is_in_range 0xFF61 0xFF9F c) || ((c == 0xA5 || c == 0x203E) || c == 0x2212))

-- the half-width katakana c has an entry in index ISO-2022-JP katakana; that entry is looked up itself and has a
-- pointer
pub record IsFold (jis0208 katakana_index : List ℕ) (c : ℕ) : Type 0 where
  pub entry : ℕ
  pub entry_is : idx katakana_index (c - 0xFF61) ≡ Some entry
  pub looked_up : is_looked_up entry ≡ true
  pub has_pointer : is_some (euc_jp_pointer_of jis0208 entry) ≡ true

-- each half-width katakana has such an entry
abbrev pub HasFolds : List ℕ → List ℕ → Type 0
HasFolds jis0208 katakana_index = (c : ℕ) → is_in_range 0xFF61 0xFF9F c ≡ true → IsFold jis0208 katakana_index c

-- each scalar past ASCII without other bytes, except U+E5E5, has a pointer of four bytes
abbrev pub HasRangePointers : List ℕ → List (ℕ × ℕ) → List (ℕ × ℕ × ℕ) → Type 0
HasRangePointers index ranges pua = (c : ℕ) → IsScalar c → is_ascii c ≡ false → (c == 0xE5E5) ≡ false →
    gb18030_pua_of pua c ≡ None → index_pointer_of index c ≡ None → is_some (range_pointer_of ranges c) ≡ true

-- the pointers that a codec's lists must have
abbrev pub HasPointers : Codec → Type 0
HasPointers (shift_jis jis0208) = is_some (shift_jis_pointer_of jis0208 0xFF0D) ≡ true
HasPointers (euc_jp jis0208 jis0212) = HasRows jis0208
HasPointers (gb18030 index ranges pua) = HasRangePointers index ranges pua
HasPointers (iso_2022_jp jis0208 katakana_index) = HasRows jis0208 × HasFolds jis0208 katakana_index
HasPointers _ = ⊤

-- ---- the law

-- the ranges are accepted by the checks of tables
pub record AreAcceptedRanges (ranges : List (ℕ × ℕ)) : Type 0 where
  pub ordered : range_order_fault 0 None ranges ≡ None
  pub valued : range_value_fault 0 ranges ≡ None

-- the ranges of the codec are accepted, if it has any
abbrev pub HasAcceptedRanges : Codec → Type 0
HasAcceptedRanges (gb18030 index ranges pua) = AreAcceptedRanges ranges
HasAcceptedRanges _ = ⊤

-- for each text the handler gives the events of a new encoder that writes the text to its end
abbrev pub AreEncodedByHandlers : Type 0
AreEncodedByHandlers =
    (codec : Codec) → HasAcceptedRanges codec → HasPointers codec →
    (text : List ℕ) → AreScalars text → HandlerEncodes codec text (encoded (new_encoder codec) text true)
