-- The places of the bytes of a pair, whose sum is the pointer. A byte that is no lead or trail has a place past the end
-- of every index.
use Rattle.std.specs.{Prelude.{◌≡◌, ℕ, ◌-◌, ◌*◌, List, map, if◌then◌else◌}, List.range_with_len}
use Rattle.legacy_base.specs.States.{is_lead}

-- the table has the place of every byte
abbrev pub Tabulates : (ℕ → ℕ) → List ℕ → Type 0
Tabulates place table = table ≡ map place (range_with_len 0 256)

-- the place of a lead from 81 to FE, in an index whose rows have 190 entries
unfoldable pub lead_place : ℕ → ℕ
lead_place lead = if is_lead lead then (lead - 0x81) * 190 else 65535
