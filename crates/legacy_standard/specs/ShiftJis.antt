-- The Standard's "Shift_JIS decoder". Its state is the Shift_JIS leading byte, initially 0x00.
use Rattle.std.specs.Prelude.{ℕ, ◌+◌, ◌-◌, ◌*◌, ◌==◌, ◌||◌, not, nat_lt, List, Option, Some, None, if◌then◌else◌}
use Rattle.std.specs.Int.{is_in_range}
use Rattle.std.specs.Char.{is_ascii}
use Rattle.legacy_tables.specs.Indexes.{idx}
use Rattle.legacy_standard.specs.Queue.{Item, byte, end_of_queue, Handled, continue, error, code_point, returns, return_or_error, end_with_leading}

-- the steps from "if pointer is in the range 8836 to 10715" on
abbrev pub shift_jis_pointer_returns : List ℕ → Option ℕ → ℕ → Handled ℕ
shift_jis_pointer_returns jis0208 None b = return_or_error None b 0x00
shift_jis_pointer_returns jis0208 (Some pointer) b =
    if is_in_range 8836 10715 pointer then returns (code_point (0xE000 + (pointer - 8836))) 0x00
    else return_or_error (idx jis0208 pointer) b 0x00

-- the steps with a leading byte
abbrev pub shift_jis_trailing : List ℕ → ℕ → ℕ → Handled ℕ
shift_jis_trailing jis0208 leading b =
    let offset : ℕ = if nat_lt b 0x7F then 0x40 else 0x41 in
    let leading_offset : ℕ = if nat_lt leading 0xA0 then 0x81 else 0xC1 in
    let pointer : Option ℕ =
    if is_in_range 0x40 0x7E b || is_in_range 0x80 0xFC b
    then Some ((leading - leading_offset) * 188 + (b - offset)) else None in
    shift_jis_pointer_returns jis0208 pointer b

-- the handler of the "Shift_JIS decoder", by index jis0208 and the leading byte
unfoldable pub shift_jis_handler : List ℕ → ℕ → Item → Handled ℕ
shift_jis_handler jis0208 leading end_of_queue = end_with_leading leading
shift_jis_handler jis0208 leading (byte b) =
    if not (leading == 0x00) then shift_jis_trailing jis0208 leading b
    else if is_ascii b || b == 0x80 then returns (code_point b) leading
    else if is_in_range 0xA1 0xDF b then returns (code_point (0xFF61 + (b - 0xA1))) leading
    else if is_in_range 0x81 0x9F b || is_in_range 0xE0 0xFC b then returns continue b
    else returns error leading
