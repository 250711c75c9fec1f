-- Codecs of leads and trails (WHATWG Encoding Standard, for example "EUC-KR decoder"). An ASCII byte is its own
-- scalar. A lead and a trail give the scalar of their pointer in one index. There are no other sequences.
use Rattle.std.specs.Prelude.{ℕ, List, [], ◌∷◌, Bool, Option, if◌then◌else◌, option_to_list}
use Rattle.std.specs.Option.{option_map_or}
use Rattle.std.specs.Char.{is_ascii}
use Rattle.legacy_base.specs.Fronts.{Front, reads, malformed, trail_front}
use Rattle.legacy_tables.specs.Indexes.{idx}
use Rattle.legacy_base.specs.Profile.{Profile, lead_profile, lead_lengths}

-- the scalar of a pointer, if there is one
abbrev pub pointer_scalars : List ℕ → Option ℕ → List ℕ
pointer_scalars index pointer = option_map_or (λ p. option_to_list (idx index p)) pointer []

-- the scalar of a lead and a trail, if they have a pointer with a scalar
abbrev pub pair_scalars : (ℕ → ℕ → Option ℕ) → List ℕ → ℕ → ℕ → List ℕ
pair_scalars pointers index lead trail = pointer_scalars index (pointers lead trail)

-- the front after a lead
unfoldable pub lead_pair : (ℕ → ℕ → Option ℕ) → List ℕ → ℕ → List ℕ → Front
lead_pair pointers index lead rest = trail_front 1 (pair_scalars pointers index lead) rest

-- the front of a list that begins with b
unfoldable pub lead_front : (ℕ → Bool) → (ℕ → ℕ → Option ℕ) → List ℕ → ℕ → List ℕ → Front
lead_front is_lead_byte pointers index b rest =
    if is_ascii b then reads 1 (b ∷ [])
    else if is_lead_byte b then lead_pair pointers index b rest
    else malformed 1

-- the codec, given which bytes are leads, the pointer of a lead and another byte (if any), and the index
abbrev pub lead_trail_profile : (ℕ → Bool) → (ℕ → ℕ → Option ℕ) → List ℕ → Profile
lead_trail_profile is_lead_byte pointers index = record (lead_profile (lead_front is_lead_byte pointers index) is_lead_byte) { lengths = lead_lengths }
