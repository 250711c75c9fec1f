-- GB18030 and GBK: their fronts and codes (WHATWG Encoding Standard, "gb18030 decoder" and "gb18030 encoder").
use Rattle.std.specs.Prelude.{ℕ, ◌+◌, ◌-◌, ◌*◌, ◌/◌, ◌%◌, List, [], ◌∷◌, Option, Some, None, Bool, true}
use Rattle.std.specs.Prelude.{false, not, ◌&&◌, ◌||◌, ◌==◌, nat_lt, if◌then◌else◌, option_to_list, option_map}
use Rattle.std.specs.Option.{option_or}
use Rattle.std.specs.Int.{is_in_range}
use Rattle.std.specs.Char.{is_ascii, is_ascii_digit}
use Rattle.legacy_base.specs.Fronts.{Front, reads, malformed, reads_or, trail_rule, cut}
use Rattle.legacy_tables.specs.Indexes.{idx, range, gb18030_pua_of}
use Rattle.legacy_tables.specs.Pointers.{index_pointer_of, range_pointer_of}
use Rattle.legacy_base.specs.Profile.{Profile, is_lead, held_profile, three_bytes, one_more}
use Rattle.legacy_base.specs.EncoderProfile.{EncoderProfile, plain_encoder}
use Rattle.legacy_base.specs.Formulas.{weighed, number, ◌⊕◌, ◌⊗◌}

-- the scalar of a lead and a trail, if there is one
abbrev pub gb18030_scalars : List ℕ → ℕ → ℕ → List ℕ
gb18030_scalars index lead trail =
    if is_in_range 0x40 0x7E trail then option_to_list (idx index ((lead - 0x81) * 190 + (trail - 0x40)))
    else if is_in_range 0x80 0xFE trail then option_to_list (idx index ((lead - 0x81) * 190 + (trail - 0x41)))
    else []

-- the range pointer of four bytes
abbrev pub gb18030_range_pointer : ℕ → ℕ → ℕ → ℕ → ℕ
gb18030_range_pointer first second third fourth =
    12600 * (first - 0x81) + 1260 * (second - 0x30) + 10 * (third - 0x81) + (fourth - 0x30)

-- the front after a lead, a digit and a lead; if the fourth byte is no digit, reading continues at the second byte
unfoldable pub gb18030_fourth : List (ℕ × ℕ) → ℕ → ℕ → ℕ → List ℕ → Front
gb18030_fourth ranges first second third [] = malformed 3
gb18030_fourth ranges first second third (fourth ∷ rest) =
    if is_ascii_digit fourth
    then reads_or 4 (option_to_list (range ranges (gb18030_range_pointer first second third fourth))) (malformed 4)
    else malformed 1

-- the front after a lead and a digit; if the third byte is no lead, reading continues at the second byte
unfoldable pub gb18030_third : List (ℕ × ℕ) → ℕ → ℕ → List ℕ → Front
gb18030_third ranges first second [] = malformed 2
gb18030_third ranges first second (third ∷ rest) =
    if is_lead third then gb18030_fourth ranges first second third rest else malformed 1

-- the front after a lead
unfoldable pub gb18030_second : List ℕ → List (ℕ × ℕ) → ℕ → List ℕ → Front
gb18030_second index ranges first [] = malformed 1
gb18030_second index ranges first (second ∷ rest) =
    if is_ascii_digit second then gb18030_third ranges first second rest
    else reads_or 2 (gb18030_scalars index first second) (trail_rule 1 second)

-- the front of a list that begins with b
unfoldable pub gb18030_front : List ℕ → List (ℕ × ℕ) → ℕ → List ℕ → Front
gb18030_front index ranges b rest =
    if is_ascii b then reads 1 (b ∷ [])
    else if b == 0x80 then reads 1 (0x20AC ∷ [])
    else if is_lead b then gb18030_second index ranges b rest
    else malformed 1

-- true for nothing, the first one to three bytes of four, a digit to be written, and such a digit with a lead
abbrev pub gb18030_may_hold : List ℕ → Bool
gb18030_may_hold [] = true
gb18030_may_hold (b ∷ []) = is_lead b || is_ascii_digit b
gb18030_may_hold (b ∷ c ∷ []) = (is_lead b && is_ascii_digit c) || (is_ascii_digit b && is_lead c)
gb18030_may_hold (b ∷ c ∷ d ∷ []) = (is_lead b && is_ascii_digit c) && is_lead d
gb18030_may_hold _ = false

-- false if a digit of a malformed sequence is still to be written
abbrev pub gb18030_rests : List ℕ → Bool
gb18030_rests (b ∷ bytes) = not (is_ascii_digit b)
gb18030_rests _ = true

-- the decoder
abbrev pub gb18030_profile : List ℕ → List (ℕ × ℕ) → Profile
gb18030_profile index ranges = record (held_profile (cut (gb18030_front index ranges) 0 0) gb18030_may_hold) {
  rests = gb18030_rests;
  wide_reads = true;
  wide_writes = true;
  lengths = one_more (three_bytes weighed);
}

-- ---- encoding

-- the lead and the trail of a pointer
abbrev pub gb18030_pair_bytes : ℕ → List ℕ
gb18030_pair_bytes p = (p / 190 + 0x81) ∷ (p % 190 + (if nat_lt (p % 190) 0x3F then 0x40 else 0x41)) ∷ []

-- the four bytes of a range pointer
abbrev pub gb18030_range_bytes : ℕ → List ℕ
gb18030_range_bytes p =
    (p / 12600 + 0x81) ∷ (p % 12600 / 1260 + 0x30) ∷ (p % 1260 / 10 + 0x81) ∷ (p % 10 + 0x30) ∷ []

-- the two bytes of a scalar past ASCII, from the private-use rows or else from the index
abbrev pub gb18030_pair_code : List (ℕ × ℕ × ℕ) → List ℕ → ℕ → Option (List ℕ)
gb18030_pair_code pua index c =
    option_or (option_map (λ row. row.0 ∷ row.1 ∷ []) (gb18030_pua_of pua c))
    (option_map gb18030_pair_bytes (index_pointer_of index c))

-- the code of a scalar in GB18030
unfoldable pub gb18030_code : List ℕ → List (ℕ × ℕ) → List (ℕ × ℕ × ℕ) → ℕ → Option (List ℕ)
gb18030_code index ranges pua c =
    if is_ascii c then Some (c ∷ [])
    else if c == 0xE5E5 then None
    else option_or (gb18030_pair_code pua index c) (option_map gb18030_range_bytes (range_pointer_of ranges c))

-- the code of a scalar in GBK: no code has four bytes, and the euro sign has one byte
unfoldable pub gbk_code : List ℕ → List (ℕ × ℕ × ℕ) → ℕ → Option (List ℕ)
gbk_code index pua c =
    if is_ascii c then Some (c ∷ [])
    else if c == 0xE5E5 then None
    else if c == 0x20AC then Some (0x80 ∷ [])
    else gb18030_pair_code pua index c

-- the encoder of GB18030
abbrev pub gb18030_encoder : List ℕ → List (ℕ × ℕ) → List (ℕ × ℕ × ℕ) → EncoderProfile
gb18030_encoder index ranges pua =
    plain_encoder (gb18030_code index ranges pua) 4 (λ n. number 2 ⊕ number 2 ⊗ n) (λ n. number 4 ⊗ n)

-- the encoder of GBK
abbrev pub gbk_encoder : List ℕ → List (ℕ × ℕ × ℕ) → EncoderProfile
gbk_encoder index pua =
    plain_encoder (gbk_code index pua) 4 (λ n. n ⊕ number 3) (λ n. number 2 ⊕ number 2 ⊗ n)
