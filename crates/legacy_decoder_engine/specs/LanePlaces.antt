-- The places of the leads and the trails of codes, the lead low. The pointer is their sum, or 65535 if that is less.
use Rattle.std.specs.{Prelude.{ℕ, ◌+◌, ◌-◌, ◌*◌, ◌/◌, ◌%◌, min, if◌then◌else◌}, Int.is_in_range}

-- the place of a code's lead: leads are `lead` to `lead + leads`, and a row has `width` entries
abbrev pub lead_place_of : ℕ → ℕ → ℕ → ℕ → ℕ
lead_place_of lead leads width code = if is_in_range lead (lead + leads) (code % 0x100) then (code % 0x100 - lead) * width else 65535

-- the place of a trail in its row: trails are 40 to 7E and `second` to `last`
abbrev pub trail_place : ℕ → ℕ → ℕ → ℕ
trail_place second last trail =
    if is_in_range 0x40 0x7E trail then trail - 0x40
    else if is_in_range second last trail then trail - (second - 0x3F)
    else 65535

-- the place of a code's trail in its row
abbrev pub trail_place_of : ℕ → ℕ → ℕ → ℕ
trail_place_of second last code = trail_place second last (code / 0x100)

-- the place of a code's trail in its row: trails are `first` to FE
abbrev pub late_place_of : ℕ → ℕ → ℕ
late_place_of first code = if is_in_range first 0xFE (code / 0x100) then code / 0x100 - first else 65535

-- the place of a code in an index with one row for each lead, if trails are `first` to FE
abbrev pub row_place : ℕ → ℕ → ℕ → ℕ → ℕ → ℕ
row_place lead leads width first code = min (lead_place_of lead leads width code + late_place_of first code) 65535
