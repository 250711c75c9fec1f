-- Eight code units that a destination writes at once, none of them a surrogate.
use Rattle.std.proofs.Common.{◌≡◌, ℕ, ◌+◌, ◌-◌, ◌≤◌, ◌<◌, List, ◌++◌, length, take, get_or, ap, arith, append-nil, append_assoc, length-append, w16, Fits}
use Rattle.std.proofs.lemmas.{List.{get_or-take, length-take, length-take-le, flat_map_more, take_all, get_or_past}, Grind.common_steps, Bool.cases_lt}
use lib.Lanes.{Each1}
use Rattle.{std.proofs.lemmas.Simd.{Each1-get_or, below_from_Fits}, legacy_text.proofs.CodeUnits.own_units}
use Rattle.legacy_text.proofs.CodeUnits.{code_units_ascii, length-code_units-bmp, total_unit_count-append}

-- the free code units after some were written up to a place
pub free-after : (at result : ℕ) (old new units : List ℕ) → length new ≡ length old → at ≤ length old → result ≤ length old
    → take result new ≡ take at old ++ units → length new - result + length units ≡ length old - at
free-after at result old new units same before after written = grind (arith, length-take-le, length-append, ap length written)

pub unit-below : (units : List ℕ) (k : ℕ) → Each1 (Fits w16) units → get_or units k 0 < 65536
unit-below units k fits = grind (arith, cases_lt, Each1-get_or, below_from_Fits, w16, get_or_past)

pub ruleset whole_steps = (common_steps, own_units, unit-below, get_or-take, length-take, length-take-le, take_all)

pub ruleset room_steps = (common_steps, free-after)

pub ruleset first_steps = (common_steps, append-nil, append_assoc, length-code_units-bmp, unit-below, flat_map_more, total_unit_count-append)

pub ruleset ascii_steps = (common_steps, code_units_ascii, append_assoc)
