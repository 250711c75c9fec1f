-- The entries of a table of places, and the entry of an index at the sum of the places of a lead and a trail.
use Rattle.std.proofs.Common.{◌≡◌, ◌∙◌, ℕ, ◌+◌, ◌≤◌, ◌<◌, List, [], ◌∷◌, length, get_or, Bool, true, cond, None, refl, ap, arith}
use Rattle.std.proofs.{lemmas.Bool.Decides.nat_tests, lemmas.List.get_or_past, lemmas.List.FromFn.get_or-map-range_with_len}
use Rattle.std.specs.Prelude.{option_to_list}
use Rattle.legacy_tables.specs.Indexes.{idx, entry_scalar}
use Rattle.legacy_decoder_engine.specs.{Places.{Tabulates, lead_place}, declared.places.TheConstants.ROWS_OF_190}

pub read : (table : List ℕ) (place : ℕ → ℕ) → Tabulates place table → (b : ℕ) → b < 256 → get_or table b 0 ≡ place b
read table place is b h = ap (λ t. get_or t b 0) is ∙ get_or-map-range_with_len place 0 256 b b 0 h (omega arith)

pub rows_are : Tabulates lead_place ROWS_OF_190
unfolding lead_place
rows_are = refl

pub idx_past : (index : List ℕ) (p : ℕ) → length index ≤ p → idx index p ≡ None
idx_past index p h = ap entry_scalar (get_or_past index p 0 h)

pub none_past : (index : List ℕ) → length index ≤ 65535 → (p : ℕ) → 65535 ≤ p → option_to_list (idx index p) ≡ []
none_past index short p h = ap option_to_list (idx_past index p (omega arith))

-- a scalar is found only after a lead
pub found : (t : Bool) (scalars : List ℕ) (c : ℕ) → c ∷ [] ≡ cond t scalars [] → (t ≡ true) × (scalars ≡ c ∷ [])
found t scalars c e = (grind (arith, nat_tests), grind (arith, nat_tests))

-- the entry at the sum of the places, by whether there is a lead and by the range of the other byte
pub pair_entry : (scalars : ℕ → List ℕ) → ((p : ℕ) → 65535 ≤ p → scalars p ≡ []) → (l a b : Bool) (base low high : ℕ) →
    scalars (cond l base 65535 + cond a low (cond b high 65535)) ≡ cond l (cond a (scalars (base + low)) (cond b (scalars (base + high)) [])) []
pair_entry scalars none l a b base low high = grind (arith, nat_tests)
