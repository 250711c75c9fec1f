-- The places of leads and trails of Shift_JIS, byte by byte and in lanes, and the byte sequences that give one scalar.
use Rattle.std.proofs.Common.{◌≡◌, ℕ, ◌+◌, [], ◌∷◌, false, cond, Some, refl, ap, arith, ◌≤◌, ◌<◌, ◌^◌, ◌==◌, List, true, ◌-◌, ◌*◌, ◌/◌, ◌%◌, length}
use Rattle.std.proofs.{Common.{get_or, map, min, replicate, w16, Fits}, lemmas.{Bool.{Decides.nat_tests, agree_below_at, eqb-true}, Nat.xor_mod}}
use Rattle.std.specs.{Int.{is_in_range, Bits.bit_xor}, Prelude.option_to_list, Char.IsScalar}
use Rattle.{legacy_base.specs.{Grammar.shift_jis, ShiftJis.{is_shift_jis_lead, shift_jis_scalars}}, legacy_tables.specs.Unicode.katakana_of}
use Rattle.legacy_decoder_engine.proofs.{LanePlaces.entry_is, LeadHeld.pair, PairPlaces.{none_past, pair_entry}, Widths.idx_below, YieldedForms.single_yields}
use Rattle.legacy_decoder_engine.specs.{LaneCodes.ArePairs, LanePlaces.{lead_place_of, trail_place}, ReadAhead.Yields}
use Rattle.legacy_japanese.specs.ShiftJisPlaces.{shift_jis_lead_place, shift_jis_place}
use Rattle.legacy_japanese.specs.ShiftJisShown.{shift_jis_pair_scalars, shift_jis_codec}
use Rattle.legacy_tables.{proofs.Accepted.{entry-used, length-jis0208, jis0208-below, jis0208-scalars}, specs.{AcceptedTables.AcceptedIndexes, Indexes.idx}}
use Rattle.legacy_text.proofs.UnitLanes.{of_eight}
use lib.Lanes.{Each1, zip2}
use Rattle.legacy_tables.specs.declared.tables.IndexName.TheVariants as names

pub shift_jis_entry : (tables : AcceptedIndexes) (lead trail : ℕ) →
    shift_jis_scalars tables.flat.jis0208 (shift_jis_lead_place lead + trail_place 0x80 0xFC trail)
    ≡ cond (is_shift_jis_lead lead) (shift_jis_pair_scalars tables.flat.jis0208 lead trail) []
unfolding shift_jis_lead_place
shift_jis_entry tables lead trail =
    let short = length-jis0208 tables.flat tables.accepted in grind (arith, pair_entry, nat_tests, none_past)

-- the entry of a pointer is its only scalar, as no entry is at a pointer for private use
pub entry_alone : (tables : AcceptedIndexes) (p c : ℕ) → Some c ≡ idx tables.flat.jis0208 p → c ∷ [] ≡ shift_jis_scalars tables.flat.jis0208 p
entry_alone tables p c e =
    let shared : is_in_range 8836 10715 p ≡ false = entry-used tables.flat tables.accepted names.Jis0208 p c e in
    rw shared (ap option_to_list e)

-- ---- byte sequences that give one scalar

module _ (tables : AcceptedIndexes) where
  -- a lead and a trail
  pub pair_form : (lead trail c : ℕ) → lead < 2 ^ 8 → trail < 2 ^ 8 → IsScalar c
      → c ∷ [] ≡ cond (is_shift_jis_lead lead) (shift_jis_pair_scalars tables.flat.jis0208 lead trail) []
      → (c < 0x1_0000) × Yields (shift_jis tables.flat.jis0208) (lead ∷ trail ∷ []) (c ∷ [])
  pair_form lead trail c byte byte' scalar e =
      let below = jis0208-below tables.flat tables.accepted in grind (arith, nat_tests, pair shift_jis_codec tables lead trail c, idx_below tables.flat.jis0208)

  pub pair_read : (lead trail c : ℕ) → lead < 2 ^ 8 → trail < 2 ^ 8 → IsScalar c
      → c ∷ [] ≡ cond (is_shift_jis_lead lead) (shift_jis_pair_scalars tables.flat.jis0208 lead trail) []
      → Yields (shift_jis tables.flat.jis0208) (lead ∷ trail ∷ []) (c ∷ [])
  pair_read lead trail c byte byte' scalar e = (pair_form lead trail c byte byte' scalar e).1

  -- the byte that is its own scalar past ASCII
  pub own_read : (b : ℕ) → b ≡ 0x80 → Yields (shift_jis tables.flat.jis0208) (b ∷ []) (0x80 ∷ [])
  own_read b e = rw e (single_yields (shift_jis_codec.shown tables.flat tables.accepted) 0x80 0x80 (omega arith) (grind (arith, nat_tests)) refl refl)

  -- half-width katakana
  pub katakana_form : (b c : ℕ) → 0xA1 ≤ b → b ≤ 0xDF → c ≡ katakana_of b → (c < 0x1_0000) × Yields (shift_jis tables.flat.jis0208) (b ∷ []) (c ∷ [])
  katakana_form b c low high e =
      let scalar : IsScalar c = grind (arith, nat_tests) in
      (omega arith, single_yields (shift_jis_codec.shown tables.flat tables.accepted) b c (omega arith) scalar refl (grind (arith, nat_tests)))

-- ---- the places of a lead and a trail

abbrev changed_place : ℕ → ℕ
changed_place b = cond (is_in_range 0x21 0x4F (bit_xor b 0xA0 % 256)) ((bit_xor b 0xA0 % 256 - 0x21) * 188) 65535

-- the changed place is that of the lead, if the lead is not F0 to FC
abbrev low_place : ℕ → ℕ
low_place b = cond (is_in_range 0xF0 0xFC b) 65535 (shift_jis_lead_place b)

changed_is : (b : ℕ) → b < 256 → changed_place b ≡ low_place b
unfolding shift_jis_lead_place
changed_is b h = eqb-true _ _ (agree_below_at (λ b. changed_place b == low_place b) (λ _. true) 256 b refl h)

lead_of : (code : ℕ) → lead_place_of 0x21 0x2E 188 (bit_xor code 0xA0) ≡ low_place (code % 256)
lead_of code =
    let same : code % 256 % 256 ≡ code % 256 = omega arith in
    rw (xor_mod code 0xA0 8, ← (changed_is (code % 256) (omega arith)), xor_mod (code % 256) 0xA0 8, same) refl

-- a place below 65535 is the sum of the places of both bytes, and is within the leads up to EF
placed : (code : ℕ) → shift_jis_place code < 65535
    → (shift_jis_place code ≡ shift_jis_lead_place (code % 256) + trail_place 0x80 0xFC (code / 256)) × (shift_jis_place code ≤ 8835)
unfolding shift_jis_lead_place
placed code below = grind (arith, nat_tests, lead_of)

-- ---- eight codes

-- the places of the changed codes up to the limit, each from the code that was changed
pub changed_leads : (codes : List ℕ) → length codes ≡ 8 → Each1 (Fits w16) codes →
    map (λ code. min (lead_place_of 0x21 0x2E 188 code) 8836) (zip2 bit_xor codes (replicate 8 0xA0))
    ≡ map (λ code. min (lead_place_of 0x21 0x2E 188 (bit_xor code 0xA0)) 8836) codes
changed_leads = of_eight (λ v. map (λ code. min (lead_place_of 0x21 0x2E 188 code) 8836) (zip2 bit_xor v (replicate 8 0xA0))
    ≡ map (λ code. min (lead_place_of 0x21 0x2E 188 (bit_xor code 0xA0)) 8836) v)
    (λ a b c d e f g h sa sb sc sd se sf sg sh. refl)

-- ---- pairs

module _ (tables : AcceptedIndexes) where
  abbrev index : List ℕ
  index = tables.flat.jis0208

  pub lane_pair : ArePairs (shift_jis tables.flat.jis0208) tables.flat.jis0208 shift_jis_place
  lane_pair code small past within high some =
      let p = shift_jis_place code in
      let is = placed code (omega (arith, within, length-jis0208 tables.flat tables.accepted)) in
      let scalar : IsScalar (get_or index p 0) = jis0208-scalars tables.flat tables.accepted p 0 within in
      let form = pair_form tables (code % 256) (code / 256) (get_or index p 0) (omega arith) (omega arith) scalar in
      grind (arith, nat_tests, form, entry_is, shift_jis_entry tables (code % 256) (code / 256))
