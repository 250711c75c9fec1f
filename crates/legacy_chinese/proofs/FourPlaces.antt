-- The tables contain the parts of the four bytes; the ranges are read at their pointer.
use Rattle.std.proofs.{Common.{◌≡◌, ℕ, ◌≤◌, ◌<◌, List, [], ◌∷◌, get_or, Some, None, refl, arith}, lemmas.Bool.Decides.nat_tests}
use Rattle.legacy_chinese.specs.{declared.gb18030.four_places.TheConstants.{LEADS, DIGITS}, FourForms.{lead_part, digit_part, four_place}}
use Rattle.{legacy_tables.specs.{AcceptedTables.AcceptedIndexes, Indexes.range}, legacy_decoder_engine.{proofs.PairPlaces.read, specs.ReadAhead.Yields}}
use Rattle.{legacy_chinese.proofs.Gb18030Held.four, legacy_base.specs.Grammar.gb18030}

pub lead_read : (b : ℕ) → b < 256 → (get_or LEADS b 0 ≡ lead_part b) × (lead_part b ≤ 1_240_000)
unfolding lead_part
lead_read b h = (read LEADS lead_part refl b h, grind (arith, nat_tests))

pub digit_read : (b : ℕ) → b < 256 → (get_or DIGITS b 0 ≡ digit_part b) × (digit_part b ≤ 1_240_000)
unfolding digit_part
digit_read b h = (read DIGITS digit_part refl b h, grind (arith, nat_tests))

-- past all pointers there is no scalar
pub range_past : (ranges : List (ℕ × ℕ)) (p : ℕ) → 1_237_576 ≤ p → range ranges p ≡ None
unfolding range
range_past ranges p h = grind (arith, nat_tests)

-- the scalar at the pointer is the scalar of the four bytes
pub four_at : (tables : AcceptedIndexes) (list : List (ℕ × ℕ)) (p a b c d x : ℕ) → list ≡ tables.flat.ranges → p ≡ four_place a b c d
    → range list p ≡ Some x
    → Yields (gb18030 tables.flat.gb18030 tables.flat.ranges) (a ∷ b ∷ c ∷ d ∷ []) (x ∷ [])
unfolding lead_part digit_part
four_at tables list p a b c d x same place e = grind (arith, nat_tests, four tables a b c d x, range_past)
