-- The place of a lead's row in its index, and of a trail in a row. A pair's pointer is their sum. A byte that is not a
-- lead or not a trail has a place past the end of every index.
use Rattle.std.specs.{Prelude.{◌+◌, ◌*◌, if◌then◌else◌, ℕ, min}, Int.Bits.bit_xor}
use Rattle.{legacy_base.specs.ShiftJis.{is_shift_jis_lead, shift_jis_lead_part}, legacy_decoder_engine.specs.LanePlaces.{lead_place_of, trail_place_of}}

-- the place of a lead of Shift_JIS; a row has 188 entries
unfoldable pub shift_jis_lead_place : ℕ → ℕ
shift_jis_lead_place lead = if is_shift_jis_lead lead then shift_jis_lead_part lead * 188 else 65535

-- the pointer of a code, its lead low, as eight at once are looked up, if the lead is 81 to 9F or E0 to EF; or 65535
abbrev pub shift_jis_place : ℕ → ℕ
shift_jis_place code = min (lead_place_of 0x21 0x2E 188 (bit_xor code 0xA0) + trail_place_of 0x80 0xFC code) 65535
