-- The entry of index EUC-KR at the place of a lead and a trail.
use Rattle.std.proofs.Common.{◌≡◌, ℕ, ◌+◌, ◌-◌, ◌/◌, ◌%◌, ◌≤◌, [], ◌∷◌, cond, if◌then◌else◌, length, get_or, option_to_list, refl, arith}
use Rattle.{std.{proofs.lemmas.Bool.Decides.nat_tests, specs.{Char.IsScalar, Int.is_in_range}}, legacy_tables.specs.declared.tables.IndexName.TheVariants.EucKr}
use Rattle.legacy_tables.{specs.{AcceptedTables.AcceptedIndexes, Indexes.idx, Unicode.IsByte}, proofs.Accepted.{narrow_index, index-scalars}}
use Rattle.{legacy_base.specs.{EucKr.{euc_kr, euc_kr_pointer}, LeadForms.pair_scalars, Profile.is_lead}, legacy_decoder_engine.specs.ReadAhead.{IsPair, Yields}}
use Rattle.legacy_decoder_engine.specs.{StepUnits.IsNarrowIndex, LaneCodes.ArePairs, LanePlaces.row_place, Places.{Tabulates, lead_place}}
use Rattle.legacy_decoder_engine.proofs.{LanePlaces.entry_is, LeadHeld.pair, PairPlaces.none_past, Widths.idx_below}
use Rattle.legacy_korean.specs.{EucKrShown.euc_kr_codec, declared.euc_kr.places.TheConstants.TRAILS}

-- the place of a trail in its row; a number past the end of the index if the byte is not a trail
unfoldable pub euc_kr_trail_place : ℕ → ℕ
euc_kr_trail_place trail = if is_in_range 0x41 0xFE trail then trail - 0x41 else 65535

pub euc_kr_trails_are : Tabulates euc_kr_trail_place TRAILS
unfolding euc_kr_trail_place
euc_kr_trails_are = refl

module _ (tables : AcceptedIndexes) where
  narrow : IsNarrowIndex tables.flat.euc_kr × (length tables.flat.euc_kr ≤ 65535)
  narrow = narrow_index tables.flat tables.accepted EucKr refl

  -- the entry at the sum of the places
  pub euc_kr_entry : (lead trail : ℕ)
      → option_to_list (idx tables.flat.euc_kr (lead_place lead + euc_kr_trail_place trail))
      ≡ cond (is_lead lead) (pair_scalars euc_kr_pointer tables.flat.euc_kr lead trail) []
  unfolding lead_place euc_kr_trail_place
  euc_kr_entry lead trail = let none = none_past tables.flat.euc_kr narrow.1 in grind (arith, nat_tests, none)

  -- a lead and a trail
  pub pair_form : (lead trail c : ℕ) → IsByte lead → IsByte trail → IsScalar c
      → c ∷ [] ≡ cond (is_lead lead) (pair_scalars euc_kr_pointer tables.flat.euc_kr lead trail) [] → IsPair (euc_kr tables.flat.euc_kr) lead trail c
  pair_form lead trail c byte byte' scalar e = grind (arith, pair euc_kr_codec tables lead trail c, idx_below tables.flat.euc_kr, narrow.0)

  pub pair_read : (lead trail c : ℕ) → IsByte lead → IsByte trail → IsScalar c
      → c ∷ [] ≡ cond (is_lead lead) (pair_scalars euc_kr_pointer tables.flat.euc_kr lead trail) []
      → Yields (euc_kr tables.flat.euc_kr) (lead ∷ trail ∷ []) (c ∷ [])
  pair_read lead trail c byte byte' scalar e = (pair_form lead trail c byte byte' scalar e).1

  pub euc_kr_pairs : ArePairs (euc_kr tables.flat.euc_kr) tables.flat.euc_kr (row_place 0x81 0x7D 190 0x41)
  euc_kr_pairs code small past within high some =
      let index = tables.flat.euc_kr in
      let p = row_place 0x81 0x7D 190 0x41 code in
      let scalar : IsScalar (get_or index p 0) = index-scalars tables.flat tables.accepted EucKr p 0 within in
      let entry = entry_is (get_or index p 0) some in
      (scalar, pair_form (code % 0x100) (code / 0x100) _ (omega arith) (omega arith) scalar (grind (arith, nat_tests, none_past index narrow.1, entry)))
