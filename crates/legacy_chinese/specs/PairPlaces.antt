-- The places of pairs of Big5 and gb18030 in their indexes. A byte that is not a lead or not a trail has a place past the end.
use Rattle.std.specs.Prelude.{ℕ, ◌+◌, ◌-◌, ◌*◌, min, if◌then◌else◌}
use Rattle.{legacy_base.specs.States.is_lead, legacy_decoder_engine.specs.LanePlaces.{lead_place_of, trail_place_of}}

-- the place of a lead of Big5, whose rows have 157 entries
unfoldable pub big5_lead_place : ℕ → ℕ
big5_lead_place lead = if is_lead lead then (lead - 0x81) * 157 else 65535

-- the pointer of a code, the lead low, or 65535: a row has `width` entries, and trails are 40 to 7E and `second` to FE
abbrev pub pair_place : ℕ → ℕ → ℕ → ℕ
pair_place width second code = min (lead_place_of 0x81 0x7D width code + trail_place_of second 0xFE code) 65535
