-- The Standard's "ISO-2022-JP encoder". Its state is the ISO-2022-JP encoder state, initially ASCII.
use Rattle.std.specs.Prelude.{ℕ, ◌-◌, ◌==◌, ◌||◌, ◌&&◌, not, Bool, true, false, List, [], ◌∷◌, Option, Some, None, if◌then◌else◌}
use Rattle.std.specs.Int.{is_in_range}
use Rattle.std.specs.Char.{is_ascii}
use Rattle.legacy_tables.specs.Indexes.{idx}
use Rattle.legacy_tables.specs.Pointers.{index_pointer_of}
use Rattle.legacy_standard.specs.TextQueue.{TextItem, scalar, end_of_queue, TextOutcome, TextHandled, finished, bytes, error_with}
use Rattle.legacy_standard.specs.TextQueue.{returns, restores, pointer_bytes}

-- the values of the "ISO-2022-JP encoder state"
pub data Iso2022JpEncoderState : Type 0 where
  ascii roman jis0208 : Iso2022JpEncoderState

-- true for ASCII
abbrev pub is_ascii_state : Iso2022JpEncoderState → Bool
is_ascii_state ascii = true
is_ascii_state _ = false

-- true for Roman
abbrev pub is_roman_state : Iso2022JpEncoderState → Bool
is_roman_state roman = true
is_roman_state _ = false

-- true for jis0208
abbrev pub is_jis0208_state : Iso2022JpEncoderState → Bool
is_jis0208_state jis0208 = true
is_jis0208_state _ = false

-- the bytes of the escape to ASCII
abbrev pub to_ascii : TextOutcome
to_ascii = bytes (0x1B ∷ 0x28 ∷ 0x42 ∷ [])

-- the bytes of the escape to Roman
abbrev pub to_roman : TextOutcome
to_roman = bytes (0x1B ∷ 0x28 ∷ 0x4A ∷ [])

-- the bytes of the escape to jis0208
abbrev pub to_jis0208 : TextOutcome
to_jis0208 = bytes (0x1B ∷ 0x24 ∷ 0x42 ∷ [])

-- the byte of a scalar in Roman state
abbrev pub roman_byte : ℕ → ℕ
roman_byte c = if is_ascii c then c else if c == 0xA5 then 0x5C else 0x7E

-- the code point that is looked up for c
abbrev pub set_scalar : List ℕ → ℕ → Option ℕ
set_scalar katakana_index c =
    if c == 0x2212 then Some 0xFF0D
    else if is_in_range 0xFF61 0xFF9F c then idx katakana_index (c - 0xFF61)
    else Some c

-- the steps after the index pointer is known
abbrev pub at_pointer : Iso2022JpEncoderState → Option ℕ → ℕ → TextHandled Iso2022JpEncoderState
at_pointer state None c =
    if is_jis0208_state state then restores (c ∷ []) to_ascii ascii
    else returns (error_with c) state
at_pointer state (Some pointer) c =
    if not (is_jis0208_state state) then restores (c ∷ []) to_jis0208 jis0208
    else returns (bytes (pointer_bytes 94 0x21 0x21 pointer)) state

-- the steps after the code point is replaced; if the katakana index has no entry for it, c itself is taken, without a
-- pointer
abbrev pub at_set : List ℕ → Iso2022JpEncoderState → Option ℕ → ℕ → TextHandled Iso2022JpEncoderState
at_set index state None c = at_pointer state None c
at_set index state (Some set) c = at_pointer state (index_pointer_of index set) set

-- the handler of the "ISO-2022-JP encoder", by index jis0208, index ISO-2022-JP katakana and the state
unfoldable pub iso_2022_jp_encodes : List ℕ → List ℕ → Iso2022JpEncoderState → TextItem → TextHandled Iso2022JpEncoderState
iso_2022_jp_encodes index katakana_index state end_of_queue =
    if not (is_ascii_state state) then returns to_ascii ascii else returns finished state
iso_2022_jp_encodes index katakana_index state (scalar c) =
    if (is_ascii_state state || is_roman_state state) && ((c == 0x0E || c == 0x0F) || c == 0x1B) then returns (error_with 0xFFFD) state
    else if is_ascii_state state && is_ascii c then returns (bytes (c ∷ [])) state
    else if is_roman_state state && ((is_ascii c && not (c == 0x5C || c == 0x7E)) || (c == 0xA5 || c == 0x203E))
    then returns (bytes (roman_byte c ∷ [])) state
    else if is_ascii c && not (is_ascii_state state) then restores (c ∷ []) to_ascii ascii
    else if (c == 0xA5 || c == 0x203E) && not (is_roman_state state) then restores (c ∷ []) to_roman roman
    else at_set index state (set_scalar katakana_index c) c
