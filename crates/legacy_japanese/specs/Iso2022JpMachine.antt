-- The machine of the ISO-2022-JP decoder, in small functions. It reads one byte at a time, and keeps a mode and the
-- held-back bytes.
use Rattle.std.specs.Prelude.{ℕ, ◌+◌, ◌-◌, ◌*◌, Bool, true, false, not, ◌==◌, ◌||◌, if◌then◌else◌, Option, Some, None, List, [], ◌∷◌, ◌++◌, length}
use Rattle.std.specs.{Int.is_in_range, Char.is_ascii}
use Rattle.legacy_base.specs.{Grammar.iso_2022_jp, Iso2022Jp.esc, States.{DecoderState, is_iso_2022_jp_byte, is_two_byte_mode}}
use Rattle.{legacy_decoder_engine.specs.declared.moves.Fed.{Fed, TheVariants.{Nothing as Kept, One, MalformedSequence}}, legacy_tables.specs.Indexes.idx}
use Rattle.legacy_japanese.specs.declared.iso_2022_jp.bytes.{Escape.{Escape, TheVariants.{ToAscii, ToRoman, ToKatakana, ToJis1978, ToJis1983}}, Held.Held}
use Rattle.legacy_japanese.specs.declared.iso_2022_jp.bytes.{Held.TheVariants.{Byte, Begun}}
use Rattle.legacy_japanese.specs.declared.iso_2022_jp.bytes.Start.{Start, TheVariants.{Nothing, EscapeByte, Dollar, Paren}}
use Rattle.legacy_base.specs.declared.modes.DecoderMode.{DecoderMode, TheVariants.{Ascii, Roman, Katakana, TwoByte}}

-- the second byte of an escape
abbrev pub second_of : Escape → ℕ
second_of ToJis1978 = 0x24
second_of ToJis1983 = 0x24
second_of _ = 0x28

-- the third byte of an escape
abbrev pub third_of : Escape → ℕ
third_of ToAscii = 0x42
third_of ToRoman = 0x4A
third_of ToKatakana = 0x49
third_of ToJis1978 = 0x40
third_of ToJis1983 = 0x42

-- the mode that an escape switches to
abbrev pub mode_of : Escape → DecoderMode
mode_of ToAscii = Ascii
mode_of ToRoman = Roman
mode_of ToKatakana = Katakana
mode_of ToJis1978 = TwoByte
mode_of ToJis1983 = TwoByte

-- the mode of the bytes after a held-back escape, if there is one
abbrev pub mode_after : DecoderMode → Option Escape → DecoderMode
mode_after mode None = mode
mode_after mode (Some e) = mode_of e

-- the bytes of a held-back escape
abbrev pub escape_bytes : Option Escape → List ℕ
escape_bytes None = []
escape_bytes (Some e) = esc ∷ second_of e ∷ third_of e ∷ []

-- the bytes of the beginning of an escape
abbrev pub start_bytes : Start → List ℕ
start_bytes Nothing = []
start_bytes EscapeByte = esc ∷ []
start_bytes Dollar = esc ∷ 0x24 ∷ []
start_bytes Paren = esc ∷ 0x28 ∷ []

-- the held-back bytes
abbrev pub bytes_held : Held → List ℕ
bytes_held (Byte b) = b ∷ []
bytes_held (Begun e s) = escape_bytes e ++ start_bytes s

-- the number of input bytes that the held-back bytes count as in a length; a whole escape counts as one
abbrev pub weight_of : Held → ℕ
weight_of (Byte b) = 1
weight_of (Begun None s) = length (start_bytes s)
weight_of (Begun (Some e) s) = 1 + length (start_bytes s)

-- the state with this index, this mode and these held-back bytes
abbrev pub state_in : List ℕ → DecoderMode → Held → DecoderState
state_in jis0208 mode held = record { grammar = iso_2022_jp jis0208 mode; held = bytes_held held }

-- a malformed sequence, with the mode and the held-back bytes after it
abbrev pub malformed : ℕ → Bool → DecoderMode → Held → Fed × DecoderMode × Held
malformed n unread mode held = (MalformedSequence n (length (bytes_held held)) unread, mode, held)

-- the scalar of a byte outside two-byte mode
abbrev pub single : DecoderMode → ℕ → Option ℕ
single Ascii b = if (b == 0x0E || b == 0x0F) || not (is_ascii b) then None else Some b
single Roman b =
    if (b == 0x0E || b == 0x0F) || not (is_ascii b) then None
    else if b == 0x5C then Some 0xA5
    else if b == 0x7E then Some 0x203E
    else Some b
single Katakana b = if is_in_range 0x21 0x5F b then Some (0xFF61 + (b - 0x21)) else None
single TwoByte b = None

-- n bytes are written as their scalar, or are malformed
abbrev pub read_or : ℕ → DecoderMode → Option ℕ → Fed × DecoderMode × Held
read_or n mode (Some c) = (One c, mode, Begun None Nothing)
read_or n mode None = malformed n false mode (Begun None Nothing)

-- reads a byte that is not the escape byte, with nothing held back
abbrev pub read_in_mode : DecoderMode → ℕ → Fed × DecoderMode × Held
read_in_mode TwoByte b = if is_in_range 0x21 0x7E b then (Kept, TwoByte, Byte b) else read_or 1 TwoByte None
read_in_mode mode b = read_or 1 mode (single mode b)

-- reads a byte after a lead
abbrev pub read_trail : List ℕ → ℕ → ℕ → Fed × DecoderMode × Held
read_trail jis0208 l b =
    if b == esc then malformed 1 false TwoByte (Begun None EscapeByte)
    else if is_in_range 0x21 0x7E b then read_or 2 TwoByte (idx jis0208 ((l - 0x21) * 94 + (b - 0x21)))
    else read_or 2 TwoByte None

-- the escape that a byte completes
abbrev pub completes : Start → ℕ → Option Escape
completes Dollar b = if b == 0x40 then Some ToJis1978 else if b == 0x42 then Some ToJis1983 else None
completes Paren b =
    if b == 0x42 then Some ToAscii
    else if b == 0x4A then Some ToRoman
    else if b == 0x49 then Some ToKatakana
    else None
completes _ b = None

-- The third byte completes the next escape, and a whole one directly before it is malformed. Or the escape byte is
-- malformed and the second byte is held back alone.
abbrev pub read_third : DecoderMode → Option Escape → ℕ → Option Escape → Fed × DecoderMode × Held
read_third mode None a (Some e) = (Kept, mode, Begun (Some e) Nothing)
read_third mode (Some before) a (Some e) = malformed 3 false mode (Begun (Some e) Nothing)
read_third mode before a None = malformed 1 true mode (Byte a)

-- reads a byte after the beginning of an escape, or with nothing held back; after a whole escape its mode applies
abbrev pub read_start : DecoderMode → Option Escape → Start → ℕ → Fed × DecoderMode × Held
read_start mode e Nothing b = if b == esc then (Kept, mode, Begun e EscapeByte) else read_in_mode (mode_after mode e) b
read_start mode e EscapeByte b =
    if b == 0x24 then (Kept, mode, Begun e Dollar)
    else if b == 0x28 then (Kept, mode, Begun e Paren)
    else malformed 1 true (mode_after mode e) (Begun None Nothing)
read_start mode e Dollar b = read_third (mode_after mode e) e 0x24 (completes Dollar b)
read_start mode e Paren b = read_third (mode_after mode e) e 0x28 (completes Paren b)

-- reads the next byte
abbrev pub read : List ℕ → DecoderMode → Held → ℕ → Fed × DecoderMode × Held
read jis0208 mode (Byte l) b = read_trail jis0208 l b
read jis0208 mode (Begun e s) b = read_start mode e s b

-- ---- the held-back bytes

-- what may be held back in a mode: a byte alone is a lead, or outside two-byte mode `24` or `28`
abbrev pub is_held : DecoderMode → Held → Bool
is_held mode (Byte b) = is_iso_2022_jp_byte mode b
is_held mode (Begun e s) = true

-- a byte held back alone outside two-byte mode is written before the next byte is read
abbrev pub is_resting : DecoderMode → Held → Bool
is_resting mode (Byte b) = is_two_byte_mode mode
is_resting mode (Begun e s) = true

-- The end of the input, with no scalar to write: one malformed byte is reported, and this is the mode and what is held
-- back after it. `None`: nothing is left.
abbrev pub finish : DecoderMode → Held → Option (DecoderMode × Held)
finish mode (Byte l) = Some (mode, Begun None Nothing)
finish mode (Begun e Nothing) = None
finish mode (Begun e EscapeByte) = Some (mode_after mode e, Begun None Nothing)
finish mode (Begun e Dollar) = Some (mode_after mode e, Byte 0x24)
finish mode (Begun e Paren) = Some (mode_after mode e, Byte 0x28)
