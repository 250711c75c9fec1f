-- Big5: its fronts and its codes (WHATWG Encoding Standard, "Big5 decoder" and "Big5 encoder").
use Rattle.std.specs.Prelude.{ℕ, ◌+◌, ◌-◌, ◌*◌, ◌/◌, ◌%◌, List, [], ◌∷◌, true, Option, Some, None, ◌==◌, nat_lt, if◌then◌else◌, option_to_list}
use Rattle.std.specs.Option.{option_map_or}
use Rattle.std.specs.Int.{is_in_range}
use Rattle.std.specs.Char.{is_ascii}
use Rattle.legacy_base.specs.Fronts.{Front, reads, malformed, trail_front}
use Rattle.legacy_tables.specs.Indexes.{idx}
use Rattle.legacy_tables.specs.Pointers.{big5_pointer_of}
use Rattle.legacy_base.specs.Profile.{Profile, is_lead, lead_profile}
use Rattle.legacy_base.specs.EncoderProfile.{EncoderProfile, pointer_code, pair_encoder}
use Rattle.legacy_base.specs.Formulas.{weighed, constant, ◌⊞◌, ◌⊠◌}

-- the pointer of a lead and a trail, or none if the second byte is no trail
abbrev pub big5_pointer : ℕ → ℕ → Option ℕ
big5_pointer lead trail =
    if is_in_range 0x40 0x7E trail then Some ((lead - 0x81) * 157 + (trail - 0x40))
    else if is_in_range 0xA1 0xFE trail then Some ((lead - 0x81) * 157 + (trail - 0x62))
    else None

-- the scalars of a pointer: a letter and a combining mark for four pointers, the entry of the index for the others
abbrev pub big5_scalars : List ℕ → ℕ → List ℕ
big5_scalars index p =
    if p == 1133 then 0xCA ∷ 0x304 ∷ []
    else if p == 1135 then 0xCA ∷ 0x30C ∷ []
    else if p == 1164 then 0xEA ∷ 0x304 ∷ []
    else if p == 1166 then 0xEA ∷ 0x30C ∷ []
    else option_to_list (idx index p)

-- the front after a lead
unfoldable pub big5_pair : List ℕ → ℕ → List ℕ → Front
big5_pair index lead rest = trail_front 1 (λ t. option_map_or (big5_scalars index) (big5_pointer lead t) []) rest

-- the front of a list that begins with b
unfoldable pub big5_front : List ℕ → ℕ → List ℕ → Front
big5_front index b rest =
    if is_ascii b then reads 1 (b ∷ [])
    else if is_lead b then big5_pair index b rest
    else malformed 1

-- the decoder
abbrev pub big5_profile : List ℕ → Profile
big5_profile index = record (lead_profile (big5_front index) is_lead) {
  wide_reads = true;
  wide_writes = true;
  marks = true;
  lengths = record { utf16 = constant 1 ⊞ weighed; utf8 = constant 3 ⊞ constant 3 ⊠ weighed; utf8_without_replacement = constant 2 ⊞ constant 2 ⊠ weighed };
}

-- ---- encoding

-- the lead and the trail of a pointer
abbrev pub big5_bytes : ℕ → List ℕ
big5_bytes p = (p / 157 + 0x81) ∷ (p % 157 + (if nat_lt (p % 157) 0x3F then 0x40 else 0x62)) ∷ []

-- the code of a scalar
unfoldable pub big5_code : List ℕ → ℕ → Option (List ℕ)
big5_code index = pointer_code big5_bytes (big5_pointer_of index)

-- the encoder
abbrev pub big5_encoder : List ℕ → EncoderProfile
big5_encoder index = pair_encoder (big5_code index)
