-- The model of a cursor over a slice.
use Rattle.std.specs.Prelude.{ℕ, List}

-- the bytes that are left, and the number of bytes passed
pub record Cursor : Type 0 where
  pub left : List ℕ
  pub consumed : ℕ
