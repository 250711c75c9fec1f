-- The Standard's "Big5 decoder". Its state is the Big5 leading byte, initially 0x00.
use Rattle.std.specs.Prelude.{ℕ, ◌+◌, ◌-◌, ◌*◌, ◌==◌, ◌||◌, nat_lt, List, [], ◌∷◌, Option, Some, None, if◌then◌else◌}
use Rattle.std.specs.Int.{is_in_range}
use Rattle.legacy_tables.specs.Indexes.{idx}
use Rattle.legacy_standard.specs.Queue.{Item, Handled, code_points, returns, return_or_error, lead_handler}

-- the steps from "if there is a row in the table below" on
abbrev pub big5_pointer_returns : List ℕ → Option ℕ → ℕ → Handled ℕ
big5_pointer_returns index None b = return_or_error None b 0x00
big5_pointer_returns index (Some pointer) b =
    if pointer == 1133 then returns (code_points (0xCA ∷ 0x304 ∷ [])) 0x00
    else if pointer == 1135 then returns (code_points (0xCA ∷ 0x30C ∷ [])) 0x00
    else if pointer == 1164 then returns (code_points (0xEA ∷ 0x304 ∷ [])) 0x00
    else if pointer == 1166 then returns (code_points (0xEA ∷ 0x30C ∷ [])) 0x00
    else return_or_error (idx index pointer) b 0x00

-- the steps with a leading byte
abbrev pub big5_trailing : List ℕ → ℕ → ℕ → Handled ℕ
big5_trailing index leading b =
    let offset : ℕ = if nat_lt b 0x7F then 0x40 else 0x62 in
    let pointer : Option ℕ =
    if is_in_range 0x40 0x7E b || is_in_range 0xA1 0xFE b then Some ((leading - 0x81) * 157 + (b - offset)) else None in
    big5_pointer_returns index pointer b

-- the handler of the "Big5 decoder", by index Big5 and the leading byte
unfoldable pub big5_handler : List ℕ → ℕ → Item → Handled ℕ
big5_handler index = lead_handler (big5_trailing index)
