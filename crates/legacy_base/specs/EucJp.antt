-- EUC-JP: its fronts and its codes (WHATWG Encoding Standard, "EUC-JP decoder" and "EUC-JP encoder").
use Rattle.std.specs.Prelude.{ℕ, ◌+◌, ◌-◌, ◌*◌, ◌/◌, ◌%◌, List, [], ◌∷◌, length, min, Option, Some}
use Rattle.std.specs.Prelude.{Bool, true, false, ◌&&◌, ◌||◌, ◌==◌, if◌then◌else◌, option_to_list, option_map}
use Rattle.std.specs.Int.{is_in_range}
use Rattle.std.specs.Char.{is_ascii}
use Rattle.legacy_base.specs.Fronts.{Front, reads, malformed, trail_rule, trail_front, cut}
use Rattle.legacy_tables.specs.Unicode.{is_katakana_byte, katakana_of, is_katakana_scalar, katakana_byte_of}
use Rattle.legacy_tables.specs.Indexes.{idx}
use Rattle.legacy_tables.specs.Pointers.{euc_jp_pointer_of, minus_as_hyphen}
use Rattle.legacy_base.specs.Profile.{Profile, held_profile, lead_lengths}
use Rattle.legacy_base.specs.EncoderProfile.{EncoderProfile, pair_encoder}

-- the leads of EUC-JP, which also follow 0x8F
abbrev pub is_euc_jp_lead : ℕ → Bool
is_euc_jp_lead b = is_in_range 0xA1 0xFE b

-- the scalar of two bytes from 0xA1 to 0xFE in an index of 94 columns, if there is one
abbrev pub euc_jp_scalars : List ℕ → ℕ → ℕ → List ℕ
euc_jp_scalars index lead trail =
    if is_euc_jp_lead trail then option_to_list (idx index ((lead - 0xA1) * 94 + (trail - 0xA1)))
    else []

-- the front after 0x8E: half-width katakana
unfoldable pub euc_jp_katakana : List ℕ → Front
euc_jp_katakana [] = malformed 1
euc_jp_katakana (t ∷ rest) =
    if is_katakana_byte t then reads 2 (katakana_of t ∷ []) else trail_rule 1 t

-- the front after 0x8F and a lead: JIS X 0212
unfoldable pub euc_jp_third : List ℕ → ℕ → List ℕ → Front
euc_jp_third jis0212 lead rest = trail_front 2 (euc_jp_scalars jis0212 lead) rest

-- the front after 0x8F
unfoldable pub euc_jp_second : List ℕ → List ℕ → Front
euc_jp_second jis0212 [] = malformed 1
euc_jp_second jis0212 (t ∷ rest) =
    if is_euc_jp_lead t then euc_jp_third jis0212 t rest else trail_rule 1 t

-- the front after a lead: JIS X 0208
unfoldable pub euc_jp_pair : List ℕ → ℕ → List ℕ → Front
euc_jp_pair jis0208 lead rest = trail_front 1 (euc_jp_scalars jis0208 lead) rest

-- the front of a list that begins with b
unfoldable pub euc_jp_front : List ℕ → List ℕ → ℕ → List ℕ → Front
euc_jp_front jis0208 jis0212 b rest =
    if is_ascii b then reads 1 (b ∷ [])
    else if b == 0x8E then euc_jp_katakana rest
    else if b == 0x8F then euc_jp_second jis0212 rest
    else if is_euc_jp_lead b then euc_jp_pair jis0208 b rest
    else malformed 1

-- true for nothing, 0x8E, 0x8F, a lead, and 0x8F with a lead
abbrev pub euc_jp_may_hold : List ℕ → Bool
euc_jp_may_hold [] = true
euc_jp_may_hold (b ∷ []) = (b == 0x8E || b == 0x8F) || is_euc_jp_lead b
euc_jp_may_hold (b ∷ c ∷ []) = b == 0x8F && is_euc_jp_lead c
euc_jp_may_hold _ = false

-- held-back bytes count as one byte
abbrev pub euc_jp_weight : List ℕ → ℕ
euc_jp_weight held = min 1 (length held)

-- the decoder
abbrev pub euc_jp_profile : List ℕ → List ℕ → Profile
euc_jp_profile jis0208 jis0212 = record (held_profile (cut (euc_jp_front jis0208 jis0212) 0 0) euc_jp_may_hold) {
  weight = euc_jp_weight;
  lengths = lead_lengths;
}

-- ---- encoding: with index JIS X 0208 only

-- the lead and the trail of a pointer
abbrev pub euc_jp_bytes : ℕ → List ℕ
euc_jp_bytes p = (p / 94 + 0xA1) ∷ (p % 94 + 0xA1) ∷ []

-- the code of a scalar
unfoldable pub euc_jp_code : List ℕ → ℕ → Option (List ℕ)
euc_jp_code jis0208 c =
    if is_ascii c then Some (c ∷ [])
    else if c == 0xA5 then Some (0x5C ∷ [])
    else if c == 0x203E then Some (0x7E ∷ [])
    else if is_katakana_scalar c then Some (0x8E ∷ katakana_byte_of c ∷ [])
    else option_map euc_jp_bytes (euc_jp_pointer_of jis0208 (minus_as_hyphen c))

-- the encoder
abbrev pub euc_jp_encoder : List ℕ → EncoderProfile
euc_jp_encoder jis0208 = pair_encoder (euc_jp_code jis0208)
