-- The scalars of gb18030 and GBK that have the codes of their pointers.
use Rattle.std.{proofs.Common.{◌≡◌, ℕ, ◌≢◌, ◌+◌, ◌*◌, ◌/◌, ◌%◌, List, Bool, false, ◌==◌, arith, nat_lt}, specs.{Prelude.if◌then◌else◌, List.list_any}}
use Rattle.legacy_encoder_engine.specs.CachedPairs.{IsOutside}

-- a private-use row has the scalar
abbrev pub is_in_rows : List (ℕ × ℕ × ℕ) → ℕ → Bool
is_in_rows rows c = list_any (λ r. r.0 == c) rows

-- the scalars that have the codes of their pointers: all but ASCII, the euro sign, U+E5E5 and those of the rows
pub record GoesByPointer (rows : List (ℕ × ℕ × ℕ)) (c : ℕ) : Type 0 where
  pub ascii : IsOutside 0 0x80 c
  pub euro : IsOutside 0x20AC 0x20AD c
  pub e5e5 : IsOutside 0xE5E5 0xE5E6 c
  pub no_row : is_in_rows rows c ≡ false

-- the lead and the trail of a pointer as one number, with the lead in the low byte
abbrev pub gb18030_mark : ℕ → ℕ
gb18030_mark p = (p / 190 + 0x81) + 256 * (p % 190 + (if nat_lt (p % 190) 0x3F then 0x40 else 0x41))

-- no such number is 0
pub gb18030_mark-some : (p : ℕ) → gb18030_mark p ≢ 0
gb18030_mark-some p e = omega arith
