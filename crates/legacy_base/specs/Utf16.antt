-- The events of UTF-16 (WHATWG Encoding Standard, "shared UTF-16 decoder"). The bytes are turned into code units, and
-- then each high surrogate directly before a low one is paired with it.
use Rattle.std.specs.Prelude.{ℕ, ◌+◌, ◌*◌, List, [], ◌∷◌, ◌++◌, Bool, true, false, not, ◌&&◌, ◌||◌, if◌then◌else◌}
use Rattle.std.specs.Char.Utf16.{is_high_surrogate, is_low_surrogate, surrogate_pair_char}
use Rattle.legacy_base.specs.declared.results.DecodeEvent.{DecodeEvent}
use Rattle.legacy_base.specs.declared.results.DecodeEvent.TheVariants.{Scalar, Bad}
use Rattle.legacy_base.specs.Profile.{Profile, byte_profile, three_bytes, one_more}
use Rattle.legacy_base.specs.Formulas.{paired}

-- the code unit of two bytes, in the byte order
abbrev pub unit_of : Bool → ℕ → ℕ → ℕ
unit_of big_endian a b = if big_endian then a * 0x100 + b else b * 0x100 + a

-- the code units of a list of bytes
unfoldable pub units_of : Bool → List ℕ → List ℕ
units_of big_endian [] = []
units_of big_endian (a ∷ []) = []
units_of big_endian (a ∷ b ∷ bytes) = unit_of big_endian a b ∷ units_of big_endian bytes

-- a byte is left over at the end
unfoldable pub has_odd_byte : List ℕ → Bool
has_odd_byte [] = false
has_odd_byte (a ∷ []) = true
has_odd_byte (a ∷ b ∷ bytes) = has_odd_byte bytes

-- the events of the unpaired code unit with the index i
abbrev pub single_unit_events : ℕ → ℕ → List DecodeEvent
single_unit_events i u =
    if is_high_surrogate u || is_low_surrogate u then Bad (2 * i) 2 ∷ [] else Scalar u ∷ []

-- the events of the end: none, or a malformed byte that is left over
abbrev pub odd_byte_events : ℕ → Bool → List DecodeEvent
odd_byte_events i false = []
odd_byte_events i true = Bad (2 * i) 1 ∷ []

-- the events of the last code unit, unpaired: a high surrogate and a byte left over are one malformed sequence
abbrev pub last_unit_events : ℕ → ℕ → Bool → List DecodeEvent
last_unit_events i u odd =
    if is_high_surrogate u && odd then Bad (2 * i) 3 ∷ []
    else single_unit_events i u ++ odd_byte_events (i + 1) odd

-- the events of code units, the first with the index i, and of a byte left over, if any
unfoldable pub units_events : ℕ → List ℕ → Bool → List DecodeEvent
units_events i [] odd = odd_byte_events i odd
units_events i (u ∷ []) odd = last_unit_events i u odd
units_events i (u ∷ v ∷ units) odd = elim (is_high_surrogate u && is_low_surrogate v) [
  | true ↦ Scalar (surrogate_pair_char u v) ∷ units_events (i + 2) units odd
  | false ↦ single_unit_events i u ++ units_events (i + 1) (v ∷ units) odd
]

-- the events of a list of bytes
unfoldable pub utf16_events : Bool → List ℕ → List DecodeEvent
utf16_events big_endian bytes = units_events 0 (units_of big_endian bytes) (has_odd_byte bytes)

-- true for nothing, an odd byte, a code unit that is no low surrogate, and a high surrogate with an odd byte
abbrev pub utf16_may_hold : Bool → List ℕ → Bool
utf16_may_hold big_endian [] = true
utf16_may_hold big_endian (a ∷ []) = true
utf16_may_hold big_endian (a ∷ b ∷ []) = not (is_low_surrogate (unit_of big_endian a b))
utf16_may_hold big_endian (a ∷ b ∷ c ∷ []) = is_high_surrogate (unit_of big_endian a b)
utf16_may_hold big_endian _ = false

-- false if a code unit that is no high surrogate is still to be written
abbrev pub utf16_rests : Bool → List ℕ → Bool
utf16_rests big_endian (a ∷ b ∷ []) = is_high_surrogate (unit_of big_endian a b)
utf16_rests big_endian _ = true

-- the codec
abbrev pub utf16_profile : Bool → Profile
utf16_profile big_endian = record (byte_profile (utf16_events big_endian)) {
  may_hold = utf16_may_hold big_endian;
  rests = utf16_rests big_endian;
  wide_reads = true;
  short_ascii = false;
  lengths = one_more (three_bytes paired);
}
