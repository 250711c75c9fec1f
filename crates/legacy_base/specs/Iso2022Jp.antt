-- ISO-2022-JP (WHATWG Encoding Standard, "ISO-2022-JP decoder" and "ISO-2022-JP encoder"). To decode, a list is cut
-- before each escape byte and each part is read by itself. To encode, the mode after each scalar is found by looking
-- back over the text.
use Rattle.std.specs.Prelude.{ℕ, ◌+◌, ◌-◌, ◌*◌, ◌/◌, ◌%◌, List, [], ◌∷◌, ◌++◌, drop, map, Option, Some, None}
use Rattle.std.specs.Prelude.{Bool, true, false, not, ◌&&◌, ◌||◌, ◌==◌, if◌then◌else◌, length}
use Rattle.std.specs.Prelude.{is_some, is_none, option_to_list, option_map, option_and_then, unwrap_or}
use Rattle.std.specs.Int.{is_in_range}
use Rattle.std.specs.Char.{is_ascii}
use Rattle.legacy_base.specs.declared.results.DecodeEvent.{DecodeEvent}
use Rattle.legacy_base.specs.declared.results.DecodeEvent.TheVariants.{Bad}
use Rattle.legacy_base.specs.declared.results.EncodeEvent.{EncodeEvent}
use Rattle.legacy_base.specs.declared.results.EncodeEvent.TheVariants.{Byte}
use Rattle.legacy_base.specs.declared.modes.DecoderMode.{DecoderMode, TheVariants.{Ascii, Roman, Katakana, TwoByte}}
use Rattle.legacy_base.specs.declared.modes.EncoderMode.{EncoderMode, TheVariants.{Ascii as in_ascii, Roman as in_roman, TwoByte as in_two_byte}}
use Rattle.legacy_base.specs.Fronts.{Front, reads, malformed, reads_or, cut}
use Rattle.legacy_tables.specs.Indexes.{idx}
use Rattle.legacy_base.specs.Profile.{Profile, held_profile}
use Rattle.legacy_base.specs.Formulas.{number, ◌⊕◌, ◌⊗◌, half}
use Rattle.legacy_text.specs.EncodingForm.{EncodingForm, Utf8, Utf16}
use Rattle.legacy_base.specs.EncodeEvents.{code_events}
use Rattle.legacy_base.specs.EncoderProfile.{EncoderProfile, by_form}
use Rattle.legacy_tables.specs.Pointers.{euc_jp_pointer_of, minus_as_hyphen}

-- the escape byte
abbrev pub esc : ℕ
esc = 0x1B

-- the mode of the escape that consists of an escape byte and these two bytes
abbrev pub escape_mode : ℕ → ℕ → Option DecoderMode
escape_mode a b =
    if a == 0x28 && b == 0x42 then Some Ascii
    else if a == 0x28 && b == 0x4A then Some Roman
    else if a == 0x28 && b == 0x49 then Some Katakana
    else if a == 0x24 && (b == 0x40 || b == 0x42) then Some TwoByte
    else None

-- ---- the parts

-- puts a byte at the beginning of the first part
abbrev pub with_first : ℕ → List (List ℕ) → List (List ℕ)
with_first b [] = (b ∷ []) ∷ []
with_first b (part ∷ parts) = (b ∷ part) ∷ parts

-- the list cut before each escape byte: the first part begins with none, and may be empty
unfoldable pub parts_of : List ℕ → List (List ℕ)
parts_of [] = [] ∷ []
parts_of (b ∷ bytes) = if b == esc then [] ∷ with_first b (parts_of bytes) else with_first b (parts_of bytes)

-- the mode of the valid escape that a part begins with, if any
unfoldable pub part_mode : List ℕ → Option DecoderMode
part_mode (e ∷ a ∷ b ∷ body) = if e == esc then escape_mode a b else None
part_mode _ = None

-- the number of bytes before a part's body: those of a valid escape, or 1 for an escape byte that begins no valid
-- escape
unfoldable pub escape_length : List ℕ → ℕ
escape_length [] = 0
escape_length (b ∷ part) =
    if is_some (part_mode (b ∷ part)) then 3
    else if b == esc then 1
    else 0

-- the first part begins with a valid escape
abbrev pub begins_valid : List (List ℕ) → Bool
begins_valid [] = false
begins_valid (part ∷ parts) = is_some (part_mode part)

-- ---- bodies

-- the front of a body that begins with b
unfoldable pub iso_2022_jp_front : List ℕ → DecoderMode → ℕ → List ℕ → Front
iso_2022_jp_front jis0208 Ascii b rest =
    if (b == 0x0E || b == 0x0F) || not (is_ascii b) then malformed 1
    else reads 1 (b ∷ [])
iso_2022_jp_front jis0208 Roman b rest =
    if (b == 0x0E || b == 0x0F) || not (is_ascii b) then malformed 1
    else if b == 0x5C then reads 1 (0xA5 ∷ [])
    else if b == 0x7E then reads 1 (0x203E ∷ [])
    else reads 1 (b ∷ [])
iso_2022_jp_front jis0208 Katakana b rest =
    if is_in_range 0x21 0x5F b then reads 1 ((0xFF61 + (b - 0x21)) ∷ []) else malformed 1
iso_2022_jp_front jis0208 TwoByte b [] = malformed 1
iso_2022_jp_front jis0208 TwoByte b (t ∷ rest) =
    if not (is_in_range 0x21 0x7E b) then malformed 1
    else if is_in_range 0x21 0x7E t
    then reads_or 2 (option_to_list (idx jis0208 ((b - 0x21) * 94 + (t - 0x21)))) (malformed 2)
    else malformed 2

-- ---- the events

-- The events of the bytes before a body. An escape byte that begins no valid escape is malformed. So is a valid escape
-- directly before the next valid escape. Other valid escapes give no events.
unfoldable pub escape_events : ℕ → List ℕ → List (List ℕ) → List DecodeEvent
escape_events place [] next = []
escape_events place (b ∷ part) next =
    if is_some (part_mode (b ∷ part))
    then (if length (b ∷ part) == 3 && begins_valid next then Bad place 3 ∷ [] else [])
    else if b == esc then Bad place 1 ∷ []
    else []

-- the events of a part that begins at the place, is read in the mode, and is followed by these parts
unfoldable pub part_events : List ℕ → DecoderMode → ℕ → List ℕ → List (List ℕ) → List DecodeEvent
part_events jis0208 mode place part next =
    escape_events place part next
    ++ cut (iso_2022_jp_front jis0208 mode) 0 (place + escape_length part) (drop (escape_length part) part)

-- The events of parts, the first of which begins at the place and follows a part in the mode. Each part is read in the
-- mode of its own valid escape, or else in the mode of the previous part.
unfoldable pub parts_events : List ℕ → DecoderMode → ℕ → List (List ℕ) → List DecodeEvent
parts_events jis0208 mode place [] = []
parts_events jis0208 mode place (part ∷ parts) =
    part_events jis0208 (unwrap_or (part_mode part) mode) place part parts
    ++ parts_events jis0208 (unwrap_or (part_mode part) mode) (place + length part) parts

-- the events of a list that begins in the mode
unfoldable pub iso_2022_jp_events : List ℕ → DecoderMode → List ℕ → List DecodeEvent
iso_2022_jp_events jis0208 mode bytes = parts_events jis0208 mode 0 (parts_of bytes)

-- ---- held-back bytes

-- true for the two-byte mode
abbrev pub is_two_byte_mode : DecoderMode → Bool
is_two_byte_mode TwoByte = true
is_two_byte_mode _ = false

-- true for the ASCII mode
abbrev pub is_ascii_mode : DecoderMode → Bool
is_ascii_mode Ascii = true
is_ascii_mode _ = false

-- the byte is the second byte of a valid escape
abbrev pub is_escape_second : ℕ → Bool
is_escape_second b = b == 0x24 || b == 0x28

-- the beginning of an escape: nothing, the escape byte, or the escape byte and a second byte
abbrev pub is_escape_start : List ℕ → Bool
is_escape_start [] = true
is_escape_start (e ∷ []) = e == esc
is_escape_start (e ∷ a ∷ []) = e == esc && is_escape_second a
is_escape_start _ = false

-- the bytes begin with a valid escape
abbrev pub is_whole_escape : List ℕ → Bool
is_whole_escape (e ∷ a ∷ b ∷ bytes) = e == esc && is_some (escape_mode a b)
is_whole_escape _ = false

-- the byte may be held back by itself: a lead, or the byte after a malformed escape byte
abbrev pub is_iso_2022_jp_byte : DecoderMode → ℕ → Bool
is_iso_2022_jp_byte mode b = if is_two_byte_mode mode then is_in_range 0x21 0x7E b else is_escape_second b

-- a byte by itself, the beginning of an escape, or a whole escape and the beginning of the next one
abbrev pub iso_2022_jp_may_hold : DecoderMode → List ℕ → Bool
iso_2022_jp_may_hold mode (b ∷ []) = b == esc || is_iso_2022_jp_byte mode b
iso_2022_jp_may_hold mode bytes =
    is_escape_start bytes || (is_whole_escape bytes && is_escape_start (drop 3 bytes))

-- false outside two-byte mode if the byte after a malformed escape byte is still to be written
abbrev pub iso_2022_jp_rests : DecoderMode → List ℕ → Bool
iso_2022_jp_rests mode (b ∷ []) = is_two_byte_mode mode || not (is_escape_second b)
iso_2022_jp_rests mode _ = true

-- a whole escape counts as one byte
abbrev pub iso_2022_jp_weight : List ℕ → ℕ
iso_2022_jp_weight bytes = if is_whole_escape bytes then length bytes - 2 else length bytes

-- the decoder in a mode
abbrev pub iso_2022_jp_profile : List ℕ → DecoderMode → Profile
iso_2022_jp_profile jis0208 mode = record (held_profile (iso_2022_jp_events jis0208 mode) (iso_2022_jp_may_hold mode)) {
  rests = iso_2022_jp_rests mode;
  begins_in_ascii = is_ascii_mode mode;
  short_ascii = false;
  weight = iso_2022_jp_weight;
}

-- ---- encoding: the code of a scalar, without the escapes around it

-- the control characters that could switch modes, which have no code
abbrev pub is_mode_control : ℕ → Bool
is_mode_control c = (c == 0x0E || c == 0x0F) || c == esc

-- The scalar that is looked up for c: for half-width katakana its entry in the katakana index, if any, and for the
-- minus sign the full-width hyphen-minus.
abbrev pub iso_2022_jp_fold : List ℕ → ℕ → Option ℕ
iso_2022_jp_fold katakana_index c =
    if is_in_range 0xFF61 0xFF9F c then idx katakana_index (c - 0xFF61) else Some (minus_as_hyphen c)

-- the pointer of the scalar that is looked up for c
abbrev pub iso_2022_jp_pointer_of : List ℕ → List ℕ → ℕ → Option ℕ
iso_2022_jp_pointer_of jis0208 katakana_index c =
    option_and_then (euc_jp_pointer_of jis0208) (iso_2022_jp_fold katakana_index c)

-- the two bytes of a pointer
abbrev pub iso_2022_jp_pair : ℕ → List ℕ
iso_2022_jp_pair p = (p / 94 + 0x21) ∷ (p % 94 + 0x21) ∷ []

-- the code of a scalar in the mode that it needs
unfoldable pub iso_2022_jp_code : List ℕ → List ℕ → ℕ → Option (List ℕ)
iso_2022_jp_code jis0208 katakana_index c =
    if is_mode_control c then None
    else if is_ascii c then Some (c ∷ [])
    else if c == 0xA5 then Some (0x5C ∷ [])
    else if c == 0x203E then Some (0x7E ∷ [])
    else option_map iso_2022_jp_pair (iso_2022_jp_pointer_of jis0208 katakana_index c)

-- the scalar that is reported if c is unmappable
abbrev pub iso_2022_jp_reported : ℕ → ℕ
iso_2022_jp_reported c = if is_mode_control c then 0xFFFD else c

-- ---- the mode after a text

-- the scalar is the same byte in ASCII mode and in Roman mode
abbrev pub is_neutral_scalar : ℕ → Bool
is_neutral_scalar c = is_ascii c && not ((c == 0x5C || c == 0x7E) || is_mode_control c)

-- the scalar is written in Roman mode only
abbrev pub is_roman_scalar : ℕ → Bool
is_roman_scalar c = c == 0xA5 || c == 0x203E

-- the code has two bytes
abbrev pub is_pair : Option (List ℕ) → Bool
is_pair (Some (a ∷ b ∷ [])) = true
is_pair _ = false

-- the scalar is written in two-byte mode
abbrev pub is_two_byte_scalar : List ℕ → List ℕ → ℕ → Bool
is_two_byte_scalar jis0208 katakana_index c = is_pair (iso_2022_jp_code jis0208 katakana_index c)

-- the scalar does not determine the mode: it is neutral or unmappable
abbrev pub keeps_mode : List ℕ → List ℕ → ℕ → Bool
keeps_mode jis0208 katakana_index c = is_neutral_scalar c || is_none (iso_2022_jp_code jis0208 katakana_index c)

-- Roman mode stays, and any other mode becomes ASCII mode
abbrev pub roman_or_ascii : EncoderMode → EncoderMode
roman_or_ascii in_roman = in_roman
roman_or_ascii _ = in_ascii

-- The mode after a text that began in the mode and does not end with a scalar of two-byte mode. The text is given last
-- scalar first. The last scalar that determines the mode decides; without one, Roman mode stays.
unfoldable pub settled_mode : List ℕ → List ℕ → EncoderMode → List ℕ → EncoderMode
settled_mode jis0208 katakana_index mode [] = roman_or_ascii mode
settled_mode jis0208 katakana_index mode (c ∷ before) =
    if keeps_mode jis0208 katakana_index c then settled_mode jis0208 katakana_index mode before
    else if is_roman_scalar c then in_roman
    else in_ascii

-- the mode after a text that began in the mode, given last scalar first
unfoldable pub mode_after_text : List ℕ → List ℕ → EncoderMode → List ℕ → EncoderMode
mode_after_text jis0208 katakana_index mode [] = mode
mode_after_text jis0208 katakana_index mode (c ∷ before) =
    if is_two_byte_scalar jis0208 katakana_index c then in_two_byte
    else settled_mode jis0208 katakana_index mode (c ∷ before)

-- ---- the events of a text

-- the escape to a mode
abbrev pub escape_to : EncoderMode → List ℕ
escape_to in_ascii = esc ∷ 0x28 ∷ 0x42 ∷ []
escape_to in_roman = esc ∷ 0x28 ∷ 0x4A ∷ []
escape_to in_two_byte = esc ∷ 0x24 ∷ 0x42 ∷ []

-- the escape from one mode to another, or nothing if they are equal
abbrev pub escape_between : EncoderMode → EncoderMode → List ℕ
escape_between in_ascii in_ascii = []
escape_between in_roman in_roman = []
escape_between in_two_byte in_two_byte = []
escape_between _ new = escape_to new

-- the escape before c, after the scalars `before` (last one first) of a text that began in the mode
abbrev pub escape_before : List ℕ → List ℕ → EncoderMode → List ℕ → ℕ → List ℕ
escape_before jis0208 katakana_index mode before c =
    escape_between (mode_after_text jis0208 katakana_index mode before) (mode_after_text jis0208 katakana_index mode (c ∷ before))

-- the events of c after `before`: the escape if the mode changes, and its bytes or its report
abbrev pub iso_2022_jp_scalar_events : List ℕ → List ℕ → EncoderMode → List ℕ → ℕ → List EncodeEvent
iso_2022_jp_scalar_events jis0208 katakana_index mode before c =
    map Byte (escape_before jis0208 katakana_index mode before c)
    ++ code_events (iso_2022_jp_reported c) (iso_2022_jp_code jis0208 katakana_index c)

-- the events of the end of a text: the escape to ASCII mode if it ends in another mode; none if the text continues
abbrev pub iso_2022_jp_end_events : EncoderMode → Bool → List EncodeEvent
iso_2022_jp_end_events mode false = []
iso_2022_jp_end_events mode true = map Byte (escape_between mode in_ascii)

-- the events of the rest of a text that began in the mode, after the scalars `before`, last one first
unfoldable pub iso_2022_jp_text_events : List ℕ → List ℕ
    → EncoderMode → List ℕ → List ℕ → Bool → List EncodeEvent
iso_2022_jp_text_events jis0208 katakana_index mode before [] ended =
    iso_2022_jp_end_events (mode_after_text jis0208 katakana_index mode before) ended
iso_2022_jp_text_events jis0208 katakana_index mode before (c ∷ text) ended =
    iso_2022_jp_scalar_events jis0208 katakana_index mode before c
    ++ iso_2022_jp_text_events jis0208 katakana_index mode (c ∷ before) text ended

-- The amount by which less than the formula's value is enough. It is one from UTF-8 in ASCII mode, and one from UTF-16
-- in two-byte mode for an odd number of code units.
abbrev pub iso_2022_jp_surplus : EncodingForm → EncoderMode → ℕ → ℕ
iso_2022_jp_surplus Utf8 in_ascii n = 1
iso_2022_jp_surplus Utf16 in_two_byte n = n % 2
iso_2022_jp_surplus _ _ n = 0

-- the encoder
abbrev pub iso_2022_jp_encoder : List ℕ → List ℕ → EncoderProfile
iso_2022_jp_encoder jis0208 katakana_index = record {
  code = iso_2022_jp_code jis0208 katakana_index;
  events = λ mode. iso_2022_jp_text_events jis0208 katakana_index mode [];
  mode_for = λ mode c. mode_after_text jis0208 katakana_index mode (c ∷ []);
  end_bytes = λ mode. escape_between mode in_ascii;
  scalar_need = λ c. 3;
  formula = by_form (λ n. number 3 ⊕ number 3 ⊗ n) (λ n. (number 3 ⊕ number 4 ⊗ n) ⊕ half (n ⊕ number 1));
  surplus = iso_2022_jp_surplus;
}
