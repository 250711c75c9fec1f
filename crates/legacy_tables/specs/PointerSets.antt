-- Sets of pointers, with one bit for each pointer, in blocks of 64.
use Rattle.std.specs.Prelude.{◌≡◌, ℕ, ◌/◌, ◌%◌, ◌==◌, Bool, true, List, slice_index}
use Rattle.std.specs.Int.{bit_at}
use Rattle.std.specs.List.{list_any}

-- the bit of the pointer is set
abbrev pub is_in_blocks : List ℕ → ℕ → Bool
is_in_blocks blocks p = bit_at (slice_index blocks (p / 64)) (p % 64) == 1

-- the set has only pointers of the order
pub record HasOnly (blocks order : List ℕ) : Type 0 where
  pub only : (p : ℕ) → is_in_blocks blocks p ≡ true → list_any (λ r. p == r) order ≡ true
