-- Orders: pointers sorted by their scalars, and look-ups in them.
use Rattle.std.specs.Prelude.{◌≡◌, ℕ, ◌<◌, List, Option, Some, true, length, find}
use Rattle.std.specs.Prelude.{◌==◌, slice_index}
use Rattle.std.specs.List.{list_any}
use Rattle.legacy_tables.specs.declared.tables.packed.PackedPart.{PackedPart}
use Rattle.legacy_tables.specs.Packed.{may_use, pointer_of}

-- the scalar of each pointer of an order is above those before it
pub record RisesBy (index order : List ℕ) : Type 0 where
  pub above : (i j : ℕ) → i < j → j < length order →
      slice_index index (slice_index order i) < slice_index index (slice_index order j)

-- the first pointer of an order with the scalar c
unfoldable pub order_pointer : List ℕ → List ℕ → ℕ → Option ℕ
order_pointer index order c = find (λ p. slice_index index p == c) order

-- a look-up that returns the pointers of an order
pub record IsLookup (part : PackedPart) (index order : List ℕ)
    (lookup : ℕ → Option ℕ) : Type 0 where
  pub found : (c q : ℕ) → lookup c ≡ Some q → (list_any (λ r. q == r) order ≡ true)
      × (slice_index index q ≡ c)
  pub only : (c q : ℕ) → list_any (λ r. q == r) order ≡ true → slice_index index q ≡ c →
      lookup c ≡ Some q
  pub usable : (q : ℕ) → list_any (λ r. q == r) order ≡ true → may_use part q ≡ true
  pub mapped : (q : ℕ) → list_any (λ r. q == r) order ≡ true → 0 < slice_index index q

-- for each scalar, an order gives the pointer that the codec uses
pub record IsOrder (part : PackedPart) (index order : List ℕ) : Type 0 where
  pub rises : RisesBy index order
  pub answers : (c : ℕ) → order_pointer index order c ≡ pointer_of part index c
