-- The codes of GB18030 and GBK decode to their scalars. The codes of private-use rows decode to the scalars of the
-- rows' bytes.
use Rattle.std.proofs.Common.{◌≡◌, ℕ, ◌+◌, ◌*◌, ◌/◌, ◌%◌, ◌<◌, ◌≤◌, List, [], ◌∷◌, length, get_or, Bool, true, false, cond, nat_lt, Option, Some, None}
use Rattle.std.proofs.{Common.{option_map, refl, sym, ◌∙◌, arith, if◌then◌else◌}, lemmas.Bool.{false≢true}, lemmas.Bool.Decides.nat_tests}
use Rattle.std.specs.{Option.{option_or, option_map_or}, Char.{is_ascii, is_ascii_digit}}
use Rattle.legacy_base.specs.{Fronts.reads, Profile.is_empty, Gb18030.{gb18030_scalars, gb18030_fourth, gb18030_third, gb18030_second, gb18030_front}}
use Rattle.legacy_base.specs.{Gb18030.{gb18030_pair_bytes, gb18030_range_bytes, gb18030_pair_code, gb18030_code, gbk_code}, RoundTrips.is_private_use_fold}
use Rattle.legacy_base.specs.RoundTrips.{private_use_scalar, has_lost_row}
use Rattle.legacy_tables.specs.{Indexes.{idx, range, gb18030_pua_of}, Pointers.{every_pointer, index_pointer_of, range_pointer_of}, TableChecks.is_row_scalar}
use Rattle.legacy_tables.specs.TableChecks.{are_row_bytes}
use Rattle.legacy_tables.proofs.Pointers.{first-taken, range-taken}
use Rattle.legacy_base.proofs.{PointersBack.{LeadsBack, leads_back}, Trips.GivesScalar, TwoByteTrips.{mapped, one_byte, two_bytes}}

-- ---- pairs

pair_scalars : (index : List ℕ) (q r p c : ℕ) → 190 * q + r ≡ p → r < 190 → idx index p ≡ Some c → (t : Bool) → nat_lt r 0x3F ≡ t
    → (is_ascii_digit (r + cond t 0x40 0x41) ≡ false) × (gb18030_scalars index (q + 0x81) (r + cond t 0x40 0x41) ≡ c ∷ [])
pair_scalars index q r p c h k m t e = grind arith

pair_back : (index : List ℕ) (ranges : List (ℕ × ℕ)) (p c : ℕ) (more : List ℕ) → length index ≤ 23940 → LeadsBack every_pointer index c p
    → gb18030_front index ranges (p / 190 + 0x81) ((p % 190 + (if nat_lt (p % 190) 0x3F then 0x40 else 0x41)) ∷ more) ≡ reads 2 (c ∷ [])
unfolding gb18030_front gb18030_second
pair_back index ranges p c more short back = grind arith

pair_decodes : (index : List ℕ) (ranges : List (ℕ × ℕ)) (c : ℕ) (bytes : List ℕ) → length index ≤ 23940
    → option_map gb18030_pair_bytes (index_pointer_of index c) ≡ Some bytes → GivesScalar (gb18030_front index ranges) bytes c
pair_decodes index ranges c bytes short h =
    let m = mapped gb18030_pair_bytes (index_pointer_of index c) bytes h in
    two_bytes (gb18030_front index ranges) _ _ c bytes m.2 (λ more. pair_back index ranges m.0 c more short
    (leads_back every_pointer index c _ (first-taken every_pointer index c) m.0 m.1))

-- ---- four-byte codes

four_back : (index : List ℕ) (ranges : List (ℕ × ℕ)) (p c : ℕ) (more : List ℕ) → range ranges p ≡ Some c → p < 1237576
    → gb18030_front index ranges (p / 12600 + 0x81) ((p % 12600 / 1260 + 0x30) ∷ (p % 1260 / 10 + 0x81) ∷ (p % 10 + 0x30) ∷ more) ≡ reads 4 (c ∷ [])
unfolding gb18030_front gb18030_second gb18030_third gb18030_fourth
four_back index ranges p c more has below = grind arith

four_decodes : (index : List ℕ) (ranges : List (ℕ × ℕ)) (c : ℕ) (bytes : List ℕ)
    → option_map gb18030_range_bytes (range_pointer_of ranges c) ≡ Some bytes → GivesScalar (gb18030_front index ranges) bytes c
four_decodes index ranges c bytes h =
    let m = mapped gb18030_range_bytes (range_pointer_of ranges c) bytes h in
    let taken = range-taken ranges c m.0 m.1 in
    rw (m.2) (record { some = omega arith; gives = λ more. four_back index ranges m.0 c more taken.0 taken.1 })

-- ---- private-use rows

-- the facts about the rows of accepted indexes: private-use scalars, with leads and trails
pub record AreGoodRows (pua : List (ℕ × ℕ × ℕ)) : Type 0 where
  pub each : (c lead trail : ℕ) → gb18030_pua_of pua c ≡ Some (lead, trail) → (is_row_scalar c ≡ true) × (are_row_bytes lead trail ≡ true)

-- if a lead and a trail have a scalar, they decode to it
pub pair_has : (index : List ℕ) (lead trail c : ℕ) → is_empty (gb18030_scalars index lead trail) ≡ false
    → gb18030_scalars index lead trail ≡ get_or (gb18030_scalars index lead trail) 0 c ∷ []
pair_has index lead trail c h = grind arith

-- a row whose bytes have a scalar decodes to it
row_back : (index : List ℕ) (ranges : List (ℕ × ℕ)) (lead trail c : ℕ) (more : List ℕ) → are_row_bytes lead trail ≡ true →
    gb18030_scalars index lead trail ≡ c ∷ [] → gb18030_front index ranges lead (trail ∷ more) ≡ reads 2 (c ∷ [])
unfolding gb18030_front gb18030_second
row_back index ranges lead trail c more bytes gives = grind arith

-- a scalar that is no fold has no row, or a row that decodes to it
pub no_private_use_fold : (index : List ℕ) (pua : List (ℕ × ℕ × ℕ)) (c : ℕ) → is_private_use_fold index pua c ≡ false
    → (private_use_scalar index pua c ≡ c) × (has_lost_row index pua c ≡ false)
no_private_use_fold index pua c h = grind arith

-- ---- the codes

module _ (index : List ℕ) (ranges : List (ℕ × ℕ)) (pua : List (ℕ × ℕ × ℕ)) (short : length index ≤ 23940) (rows : AreGoodRows pua) where
  -- a scalar outside private use has no row
  no_row : (c : ℕ) → is_row_scalar c ≡ false → private_use_scalar index pua c ≡ c
  no_row c h = by_row (gb18030_pua_of pua c) refl
    where
      by_row : (o : Option (ℕ × ℕ)) → gb18030_pua_of pua c ≡ o → option_map_or (λ row. get_or (gb18030_scalars index row.0 row.1) 0 c) o c ≡ c
      by_row None e = refl
      by_row (Some row) e = absurd (false≢true (sym h ∙ (rows.each c row.0 row.1 e).0))

  ascii_decodes : (c : ℕ) (bytes : List ℕ) → is_ascii c ≡ true → Some (c ∷ []) ≡ Some bytes →
      GivesScalar (gb18030_front index ranges) bytes (private_use_scalar index pua c)
  unfolding gb18030_front
  ascii_decodes c bytes e h = grind (arith, nat_tests, no_row, one_byte)

  row_decodes : (c lead trail : ℕ) (bytes : List ℕ) → gb18030_pua_of pua c ≡ Some (lead, trail)
      → is_empty (gb18030_scalars index lead trail) ≡ false → Some (lead ∷ trail ∷ []) ≡ Some bytes
      → GivesScalar (gb18030_front index ranges) bytes (get_or (gb18030_scalars index lead trail) 0 c)
  row_decodes c lead trail bytes e kept h =
      let s = get_or (gb18030_scalars index lead trail) 0 c in
      two_bytes (gb18030_front index ranges) lead trail s bytes (cc)
      (λ more. row_back index ranges lead trail s more (rows.each c lead trail e).1 (pair_has index lead trail c kept))

  -- the code comes from the rows, then from the index, then from `other`
  pair_or : (c : ℕ) (bytes : List ℕ) (other : Option (List ℕ)) → has_lost_row index pua c ≡ false
      → (other ≡ Some bytes → GivesScalar (gb18030_front index ranges) bytes c)
      → option_or (gb18030_pair_code pua index c) other ≡ Some bytes → GivesScalar (gb18030_front index ranges) bytes (private_use_scalar index pua c)
  pair_or c bytes other kept else_by h = grind (arith, nat_tests, pair_decodes index ranges c bytes short, row_decodes c, else_by)

  pub gb18030-decodes : (c : ℕ) (bytes : List ℕ) → has_lost_row index pua c ≡ false
      → gb18030_code index ranges pua c ≡ Some bytes → GivesScalar (gb18030_front index ranges) bytes (private_use_scalar index pua c)
  unfolding gb18030_code
  gb18030-decodes c bytes kept h =
      let own = ascii_decodes c bytes in
      let others = pair_or c bytes (option_map gb18030_range_bytes (range_pointer_of ranges c)) kept (four_decodes index ranges c bytes) in
      grind (arith, nat_tests, own, others)

  pub gbk-decodes : (c : ℕ) (bytes : List ℕ) → has_lost_row index pua c ≡ false
      → gbk_code index pua c ≡ Some bytes → GivesScalar (gb18030_front index ranges) bytes (private_use_scalar index pua c)
  unfolding gbk_code gb18030_front
  gbk-decodes c bytes kept h =
      let own = ascii_decodes c bytes in
      let others = pair_or c bytes None kept (λ n. cc) in
      grind (arith, nat_tests, own, others, no_row, one_byte)
