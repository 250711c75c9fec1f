-- Consecutive pointers of four bytes, with the scalars that a range gives them.
use Rattle.std.specs.Prelude.{◌≡◌, ◌≢◌, ℕ, ◌+◌, ◌-◌, ◌≤◌, ◌<◌, List, Some, length, drop, slice_index_or}
use Rattle.std.specs.Char.{IsScalar}
use Rattle.legacy_tables.specs.declared.tables.ranges.RangePart.{RangePart}
use Rattle.legacy_tables.specs.Indexes.{range}
use Rattle.legacy_tables.specs.Pointers.{range_pointer_of}
use Rattle.legacy_tables.specs.TableChecks.{next_pointer}

-- these pointers except 7457 have consecutive scalars, and these scalars except U+E7C7 have these pointers
pub record IsRangePart (ranges : List (ℕ × ℕ)) (part : RangePart) : Type 0 where
  pub reach : part.first + part.count ≤ 39420
  pub narrow : part.scalar + part.count ≤ 0x1_0000
  pub scalars : (p : ℕ) → part.first ≤ p → p < part.first + part.count → p ≢ 7457 → IsScalar (part.scalar + (p - part.first))
  pub given : (p : ℕ) → part.first ≤ p → p < part.first + part.count → p ≢ 7457 →
      range ranges p ≡ Some (part.scalar + (p - part.first))
  pub pointers : (c : ℕ) → part.scalar ≤ c → c < part.scalar + part.count → c ≢ 0xE7C7 →
      part.first + (c - part.scalar) ≢ 7457 → range_pointer_of ranges c ≡ Some (part.first + (c - part.scalar))

-- these pointers are those from the range at a place up to the next range; past the last range there are none
pub record IsPartAt (ranges : List (ℕ × ℕ)) (place : ℕ) (part : RangePart) : Type 0 where
  pub first : place < length ranges → part.first ≡ (slice_index_or ranges place (0, 0)).0
  pub end : place < length ranges → part.first + part.count ≡ next_pointer (drop (place + 1) ranges)
  pub scalar : place < length ranges → part.scalar ≡ (slice_index_or ranges place (0, 0)).1
  pub none : length ranges ≤ place → part.count ≡ 0

-- these pointers are those of the last range whose scalars begin at or before c, or else those of the first range
pub record IsPartWith (ranges : List (ℕ × ℕ)) (c : ℕ) (part : RangePart) : Type 0 where
  pub place : ℕ
  pub within : 0 < place → place < length ranges
  pub is : IsPartAt ranges place part
  pub reached : 0 < place → (slice_index_or ranges place (0, 0)).1 ≤ c
  pub ahead : (k : ℕ) → place < k → k < length ranges → c < (slice_index_or ranges k (0, 0)).1
