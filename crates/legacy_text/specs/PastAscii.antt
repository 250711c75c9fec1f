-- Which bytes of a block are past ASCII, as bits.
use Rattle.std.specs.{Prelude.{◌≡◌, ℕ, ◌+◌, ◌<◌, List, cond, ltb, get_or}, Int.bit_at}

-- the bits of the first 64 bytes that are past ASCII
abbrev pub ArePast : ℕ → List ℕ → Type 0
ArePast past block = (i : ℕ) → i < 64 → bit_at past i ≡ cond (ltb (get_or block i 0) 128) 0 1

-- the same of the bytes from a place on
abbrev pub ArePastFrom : ℕ → List ℕ → ℕ → Type 0
ArePastFrom past block at = (i : ℕ) → at + i < 64 → bit_at past i ≡ cond (ltb (get_or block (at + i) 0) 128) 0 1
