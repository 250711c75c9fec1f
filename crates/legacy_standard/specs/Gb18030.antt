-- The Standard's "gb18030 decoder", which is GBK's too. Its state is gb18030 first, gb18030 second and gb18030 third,
-- initially 0x00.
use Rattle.std.specs.Prelude.{ℕ, ◌+◌, ◌-◌, ◌*◌, ◌==◌, ◌||◌, ◌&&◌, not, nat_lt, List, [], ◌∷◌, Option, Some, None, if◌then◌else◌}
use Rattle.std.specs.Int.{is_in_range}
use Rattle.std.specs.Char.{is_ascii}
use Rattle.std.specs.Option.{option_and_then}
use Rattle.legacy_tables.specs.Indexes.{idx, range}
use Rattle.legacy_standard.specs.Queue.{Item, byte, end_of_queue, Handled, continue, finished, error, code_point}
use Rattle.legacy_standard.specs.Queue.{returns, restores, return_or_error, code_point_or_error}

-- the state of the "gb18030 decoder"
pub record Gb18030 : Type 0 where
  pub first : ℕ
  pub second : ℕ
  pub third : ℕ

-- the state with these three values
abbrev pub gb18030_state : ℕ → ℕ → ℕ → Gb18030
gb18030_state first second third = record { first = first; second = second; third = third }

-- the state before the first byte
abbrev pub gb18030_initial : Gb18030
gb18030_initial = gb18030_state 0x00 0x00 0x00

-- the steps if gb18030 third is set
abbrev pub gb18030_fourth_byte : List (ℕ × ℕ) → Gb18030 → ℕ → Handled Gb18030
gb18030_fourth_byte ranges d b =
    if not (is_in_range 0x30 0x39 b) then restores (d.second ∷ d.third ∷ b ∷ []) error (gb18030_state 0x00 0x00 0x00)
    else
    let pointer : ℕ = (d.first - 0x81) * (10 * 126 * 10) + (d.second - 0x30) * (10 * 126) + (d.third - 0x81) * 10 + (b - 0x30) in
    returns (code_point_or_error (range ranges pointer)) (gb18030_state 0x00 0x00 0x00)

-- the steps if gb18030 second is set
abbrev pub gb18030_third_byte : Gb18030 → ℕ → Handled Gb18030
gb18030_third_byte d b =
    if is_in_range 0x81 0xFE b then returns continue (gb18030_state d.first d.second b)
    else restores (d.second ∷ b ∷ []) error (gb18030_state 0x00 0x00 d.third)

-- the steps if gb18030 first is set
abbrev pub gb18030_second_byte : List ℕ → Gb18030 → ℕ → Handled Gb18030
gb18030_second_byte index d b =
    if is_in_range 0x30 0x39 b then returns continue (gb18030_state d.first b d.third)
    else
    let offset : ℕ = if nat_lt b 0x7F then 0x40 else 0x41 in
    let pointer : Option ℕ =
    if is_in_range 0x40 0x7E b || is_in_range 0x80 0xFE b then Some ((d.first - 0x81) * 190 + (b - offset)) else None in
    return_or_error (option_and_then (idx index) pointer) b (gb18030_state 0x00 d.second d.third)

-- the handler of the "gb18030 decoder", by index gb18030, index gb18030 ranges and the state
unfoldable pub gb18030_handler : List ℕ → List (ℕ × ℕ) → Gb18030 → Item → Handled Gb18030
gb18030_handler index ranges d end_of_queue =
    if (d.first == 0x00 && d.second == 0x00) && d.third == 0x00 then returns finished d
    else returns error (gb18030_state 0x00 0x00 0x00)
gb18030_handler index ranges d (byte b) =
    if not (d.third == 0x00) then gb18030_fourth_byte ranges d b
    else if not (d.second == 0x00) then gb18030_third_byte d b
    else if not (d.first == 0x00) then gb18030_second_byte index d b
    else if is_ascii b then returns (code_point b) d
    else if b == 0x80 then returns (code_point 0x20AC) d
    else if is_in_range 0x81 0xFE b then returns continue (gb18030_state b d.second d.third)
    else returns error d
