-- The Standard's "shared UTF-16 decoder". Its state is the UTF-16 leading byte and the UTF-16 leading surrogate,
-- initially null. Is UTF-16BE decoder is an argument.
use Rattle.std.specs.Prelude.{ℕ, ◌+◌, ◌*◌, ◌/◌, ◌%◌, ◌||◌, Bool, List, [], ◌∷◌, Option, Some, None, is_some, if◌then◌else◌}
use Rattle.std.specs.Char.Utf16.{is_high_surrogate, is_low_surrogate, surrogate_pair_char}
use Rattle.legacy_standard.specs.Queue.{Item, byte, end_of_queue, Handled, continue, finished, error, code_point, returns, restores}

-- the state of the "shared UTF-16 decoder"
pub record Utf16 : Type 0 where
  pub leading_byte : Option ℕ
  pub leading_surrogate : Option ℕ

-- the state with these two values
abbrev pub utf16_state : Option ℕ → Option ℕ → Utf16
utf16_state leading_byte leading_surrogate = record { leading_byte = leading_byte; leading_surrogate = leading_surrogate }

-- the state before the first byte
abbrev pub utf16_initial : Utf16
utf16_initial = utf16_state None None

-- the two bytes of a code unit
abbrev pub unit_bytes : Bool → ℕ → List ℕ
unit_bytes is_utf16be unit =
    let byte1 : ℕ = unit / 0x100 in
    let byte2 : ℕ = unit % 0x100 in
    if is_utf16be then byte1 ∷ byte2 ∷ [] else byte2 ∷ byte1 ∷ []

-- the steps for a code unit
abbrev pub utf16_unit : Bool → Option ℕ → ℕ → Handled Utf16
utf16_unit is_utf16be (Some leading_surrogate) unit =
    if is_low_surrogate unit then returns (code_point (surrogate_pair_char leading_surrogate unit)) (utf16_state None None)
    else restores (unit_bytes is_utf16be unit) error (utf16_state None None)
utf16_unit is_utf16be None unit =
    if is_high_surrogate unit then returns continue (utf16_state None (Some unit))
    else if is_low_surrogate unit then returns error (utf16_state None None)
    else returns (code_point unit) (utf16_state None None)

-- the steps for a byte
abbrev pub utf16_byte : Bool → Option ℕ → Option ℕ → ℕ → Handled Utf16
utf16_byte is_utf16be None leading_surrogate b = returns continue (utf16_state (Some b) leading_surrogate)
utf16_byte is_utf16be (Some leading_byte) leading_surrogate b =
    utf16_unit is_utf16be leading_surrogate (if is_utf16be then leading_byte * 0x100 + b else b * 0x100 + leading_byte)

-- the handler of the "shared UTF-16 decoder", by is UTF-16BE decoder and the state
unfoldable pub utf16_handler : Bool → Utf16 → Item → Handled Utf16
utf16_handler is_utf16be d end_of_queue =
    if is_some d.leading_byte || is_some d.leading_surrogate then returns error (utf16_state None None)
    else returns finished d
utf16_handler is_utf16be d (byte b) = utf16_byte is_utf16be d.leading_byte d.leading_surrogate b
