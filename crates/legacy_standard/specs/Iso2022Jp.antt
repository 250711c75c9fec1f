-- The Standard's "ISO-2022-JP decoder". Its state is the ISO-2022-JP decoder state and decoder output state, initially
-- ASCII, the ISO-2022-JP leading byte, initially 0x00, and ISO-2022-JP output, initially false.
use Rattle.std.specs.Prelude.{ℕ, ◌+◌, ◌-◌, ◌*◌, ◌==◌, ◌||◌, ◌&&◌, not, Bool, true, false, List, [], ◌∷◌, Option, Some, None, is_some, if◌then◌else◌}
use Rattle.std.specs.Int.{is_in_range}
use Rattle.legacy_base.specs.declared.results.DecodeEvent.TheVariants.{Bad}
use Rattle.legacy_tables.specs.Indexes.{idx}
use Rattle.legacy_standard.specs.Queue.{Item, byte, end_of_queue, Handled, continue, finished, error, code_point, returns, restores, code_point_or_error}
use Rattle.legacy_standard.specs.Processing.{Malformed}

-- the values of the "ISO-2022-JP decoder state"
pub data Iso2022JpDecoderState : Type 0 where
  ascii roman katakana leading_byte trailing_byte escape_start escape : Iso2022JpDecoderState

-- the state of the "ISO-2022-JP decoder"
pub record Iso2022Jp : Type 0 where
  pub state : Iso2022JpDecoderState
  pub output_state : Iso2022JpDecoderState
  pub leading : ℕ
  pub output : Bool

-- the state before the first byte
abbrev pub iso_2022_jp_initial : Iso2022Jp
iso_2022_jp_initial = record { state = ascii; output_state = ascii; leading = 0x00; output = false }

-- the decoder state for the two bytes of an escape, or null
abbrev pub escape_state : ℕ → ℕ → Option Iso2022JpDecoderState
escape_state leading b =
    if leading == 0x28 && b == 0x42 then Some ascii
    else if leading == 0x28 && b == 0x4A then Some roman
    else if leading == 0x28 && b == 0x49 then Some katakana
    else if leading == 0x24 && (b == 0x40 || b == 0x42) then Some leading_byte
    else None

-- the last steps of the escape state
abbrev pub after_escape : Option Iso2022JpDecoderState → ℕ → ℕ → Iso2022Jp → Handled Iso2022Jp
after_escape (Some new) leading b d =
    returns (if not d.output then continue else error) (record d { state = new; output_state = new; output = true })
after_escape None leading b d = restores (leading ∷ b ∷ []) error (record d { state = d.output_state; output = false })

-- the handler in a decoder state
abbrev pub handler_in : Iso2022JpDecoderState → List ℕ → Iso2022Jp → Item → Handled Iso2022Jp
handler_in ascii jis0208 d (byte b) =
    if b == 0x1B then returns continue (record d { state = escape_start })
    else if is_in_range 0x00 0x7F b && not (b == 0x0E || b == 0x0F) then returns (code_point b) (record d { output = false })
    else returns error (record d { output = false })
handler_in roman jis0208 d (byte b) =
    if b == 0x1B then returns continue (record d { state = escape_start })
    else if b == 0x5C then returns (code_point 0xA5) (record d { output = false })
    else if b == 0x7E then returns (code_point 0x203E) (record d { output = false })
    else if is_in_range 0x00 0x7F b && not (b == 0x0E || b == 0x0F) then returns (code_point b) (record d { output = false })
    else returns error (record d { output = false })
handler_in katakana jis0208 d (byte b) =
    if b == 0x1B then returns continue (record d { state = escape_start })
    else if is_in_range 0x21 0x5F b then returns (code_point (0xFF61 + (b - 0x21))) (record d { output = false })
    else returns error (record d { output = false })
handler_in leading_byte jis0208 d (byte b) =
    if b == 0x1B then returns continue (record d { state = escape_start })
    else if is_in_range 0x21 0x7E b then returns continue (record d { state = trailing_byte; leading = b; output = false })
    else returns error (record d { output = false })
handler_in trailing_byte jis0208 d (byte b) =
    if b == 0x1B then returns error (record d { state = escape_start })
    else if is_in_range 0x21 0x7E b
    then returns (code_point_or_error (idx jis0208 ((d.leading - 0x21) * 94 + (b - 0x21)))) (record d { state = leading_byte })
    else returns error (record d { state = leading_byte })
handler_in trailing_byte jis0208 d end_of_queue = returns error (record d { state = leading_byte })
handler_in escape_start jis0208 d (byte b) =
    if b == 0x24 || b == 0x28 then returns continue (record d { state = escape; leading = b })
    else restores (b ∷ []) error (record d { state = d.output_state; output = false })
handler_in escape_start jis0208 d end_of_queue = returns error (record d { state = d.output_state; output = false })
handler_in escape jis0208 d (byte b) = after_escape (escape_state d.leading b) d.leading b (record d { leading = 0x00 })
handler_in escape jis0208 d end_of_queue = restores (d.leading ∷ []) error (record d { state = d.output_state; leading = 0x00; output = false })
handler_in _ jis0208 d end_of_queue = returns finished d

-- the handler of the "ISO-2022-JP decoder", by index jis0208 and the state
unfoldable pub iso_2022_jp_handler : List ℕ → Iso2022Jp → Item → Handled Iso2022Jp
iso_2022_jp_handler jis0208 d item = handler_in d.state jis0208 d item

-- ---- malformed sequences

-- The length of an error's malformed sequence, and the number of bytes read after it, by the decoder state, the leading
-- byte and the item. If an escape byte follows a lead, both are read and only the lead is malformed. If a valid escape
-- follows another one, both are read and the first is malformed.
abbrev pub length_and_after : Iso2022JpDecoderState → ℕ → Item → ℕ × ℕ
length_and_after trailing_byte leading (byte b) = if b == 0x1B then (1, 1) else (2, 0)
length_and_after escape leading (byte b) = if is_some (escape_state leading b) then (3, 3) else (1, 0)
length_and_after _ leading item = (1, 0)

-- the malformed sequence of an error, which ends before the bytes read after it
abbrev pub iso_2022_jp_malformed : Malformed Iso2022Jp
iso_2022_jp_malformed d item place size =
    let e = length_and_after d.state d.leading item in
    Bad (place + size - e.1 - e.0) e.0
