-- Shift_JIS: its fronts and its codes (WHATWG Encoding Standard, "Shift_JIS decoder" and "Shift_JIS encoder").
use Rattle.std.specs.Prelude.{ℕ, ◌+◌, ◌-◌, ◌*◌, ◌/◌, ◌%◌, List, [], ◌∷◌, Option, Some, None}
use Rattle.std.specs.Prelude.{Bool, ◌||◌, ◌==◌, nat_lt, if◌then◌else◌, option_to_list, option_map}
use Rattle.std.specs.Option.{option_map_or}
use Rattle.std.specs.Int.{is_in_range}
use Rattle.std.specs.Char.{is_ascii}
use Rattle.legacy_base.specs.Fronts.{Front, reads, malformed, trail_front}
use Rattle.legacy_tables.specs.Unicode.{is_katakana_byte, katakana_of, is_katakana_scalar, katakana_byte_of}
use Rattle.legacy_tables.specs.Indexes.{idx}
use Rattle.legacy_tables.specs.Pointers.{shift_jis_pointer_of, minus_as_hyphen}
use Rattle.legacy_base.specs.Profile.{Profile, lead_profile}
use Rattle.legacy_base.specs.EncoderProfile.{EncoderProfile, pair_encoder}

-- the bytes that begin a pair
abbrev pub is_shift_jis_lead : ℕ → Bool
is_shift_jis_lead b = is_in_range 0x81 0x9F b || is_in_range 0xE0 0xFC b

-- the number of a lead among the leads
abbrev pub shift_jis_lead_part : ℕ → ℕ
shift_jis_lead_part lead = if is_in_range 0x81 0x9F lead then lead - 0x81 else lead - 0xC1

-- the pointer of a lead and a trail, or none if the second byte is no trail
abbrev pub shift_jis_pointer : ℕ → ℕ → Option ℕ
shift_jis_pointer lead trail =
    if is_in_range 0x40 0x7E trail then Some (shift_jis_lead_part lead * 188 + (trail - 0x40))
    else if is_in_range 0x80 0xFC trail then Some (shift_jis_lead_part lead * 188 + (trail - 0x41))
    else None

-- the scalar of a pointer, if there is one; the private-use range begins at U+E000
abbrev pub shift_jis_scalars : List ℕ → ℕ → List ℕ
shift_jis_scalars jis0208 p =
    if is_in_range 8836 10715 p then (0xE000 + (p - 8836)) ∷ []
    else option_to_list (idx jis0208 p)

-- the front after a lead
unfoldable pub shift_jis_pair : List ℕ → ℕ → List ℕ → Front
shift_jis_pair jis0208 lead rest =
    trail_front 1 (λ t. option_map_or (shift_jis_scalars jis0208) (shift_jis_pointer lead t) []) rest

-- the front of a list that begins with b
unfoldable pub shift_jis_front : List ℕ → ℕ → List ℕ → Front
shift_jis_front jis0208 b rest =
    if is_ascii b || b == 0x80 then reads 1 (b ∷ [])
    else if is_katakana_byte b then reads 1 (katakana_of b ∷ [])
    else if is_shift_jis_lead b then shift_jis_pair jis0208 b rest
    else malformed 1

-- the decoder
abbrev pub shift_jis_profile : List ℕ → Profile
shift_jis_profile jis0208 = lead_profile (shift_jis_front jis0208) is_shift_jis_lead

-- ---- encoding

-- the lead and the trail of a pointer
abbrev pub shift_jis_bytes : ℕ → List ℕ
shift_jis_bytes p =
    (p / 188 + (if nat_lt (p / 188) 0x1F then 0x81 else 0xC1))
    ∷ (p % 188 + (if nat_lt (p % 188) 0x3F then 0x40 else 0x41)) ∷ []

-- the code of a scalar
unfoldable pub shift_jis_code : List ℕ → ℕ → Option (List ℕ)
shift_jis_code jis0208 c =
    if is_ascii c || c == 0x80 then Some (c ∷ [])
    else if c == 0xA5 then Some (0x5C ∷ [])
    else if c == 0x203E then Some (0x7E ∷ [])
    else if is_katakana_scalar c then Some (katakana_byte_of c ∷ [])
    else option_map shift_jis_bytes (shift_jis_pointer_of jis0208 (minus_as_hyphen c))

-- the encoder
abbrev pub shift_jis_encoder : List ℕ → EncoderProfile
shift_jis_encoder jis0208 = pair_encoder (shift_jis_code jis0208)
