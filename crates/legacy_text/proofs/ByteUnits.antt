-- Single bytes that are stored as UTF-16 code units, by their entries.
use Rattle.std.proofs.Common.{◌≡◌, ◌≢◌, ◌∙◌, ℕ, ◌+◌, ◌-◌, ◌<◌, ◌≤◌, ◌^◌, List, ◌++◌, length, take, drop, get_or, slice_set, w64, bit_and, arith, ap, ◌⊎◌}
use Rattle.std.proofs.{lemmas.{Bool.{cases_lt, Decides.nat_tests}, Grind.{common_steps, same_number_lists}, List.get_or-map}, Math.Seq.take-add}
use Rattle.std.proofs.lemmas.List.{get_or-append-add, get_or-set_same, get_or-set_other, get_or_past, get_or-take, get_or-drop, length-take-le, length-drop}
use Rattle.std.{proofs.lemmas.{List.{length-map, Elements.All-from_get_or}, Nat.Bits.{bit_at_and, bit_at-zero, bit_at-trailing_zeros}}, specs.Int.bit_at}
use Rattle.{std.specs.Int.trailing_zeros, legacy_text.specs.{ByteUnits.{AreByteScalars, HaveScalars, scalars_of}, EncodingForm.{EncodingForm, Utf8, Utf16}}}
use Rattle.legacy_text.{specs.EncodingForm.{all_code_units, total_unit_count, bmp_need}, proofs.{ScalarTurns.cleared, CodeUnits.own_units}}

-- the scalar of a byte is stored at its place, and the byte has one
abbrev pub IsStored : List ℕ → List ℕ → List ℕ → ℕ → ℕ → Type 0
IsStored entries bytes stored at i =
    (get_or stored (at + i) 0 ≡ get_or entries (get_or bytes i 0) 0) × (0x80 ≤ get_or bytes i 0 → get_or entries (get_or bytes i 0) 0 ≢ 0)

module _ (entries bytes old new : List ℕ) (at n : ℕ) (front : take at new ≡ take at old) (room : at + n ≤ length new) (block : n ≤ length bytes)
    (stored : (i : ℕ) → i < n → IsStored entries bytes new at i) where
  -- the scalars of the bytes are stored after the earlier contents
  pub stored_scalars : take (at + n) new ≡ take at old ++ scalars_of entries (take n bytes)
  stored_scalars =
      let same = same_number_lists (take n (drop at new)) (scalars_of entries (take n bytes)) in
      grind (arith, nat_tests, same, front, take-add at n new, stored, length-take-le, length-drop, length-map, get_or-take, get_or-drop, get_or-map)

  -- each of the bytes has a scalar
  pub stored_have : HaveScalars entries (take n bytes)
  stored_have = All-from_get_or (λ b. 0x80 ≤ b → get_or entries b 0 ≢ 0) (take n bytes) 0
      (λ k h. let below : k < n = omega (arith, h, length-take-le n bytes block) in rw (get_or-take n bytes k 0 below) (stored k below).1)

-- below its lowest bit a number has none
pub before_lowest : (n i : ℕ) → i < trailing_zeros w64 n → n < 2 ^ 64 → bit_at n i ≡ 0
before_lowest n i below few = grind (arith, nat_tests, bit_at-zero i, bit_at-trailing_zeros w64 n)

-- without its lowest bit a number has the bits that it had
pub without_lowest : (n i : ℕ) → 0 < n → n < 2 ^ 64 → bit_at (bit_and n (n - 1)) i ≡ 0 → (bit_at n i ≡ 0) ⊎ (i ≡ trailing_zeros w64 n)
without_lowest n i some few e =
    let low = bit_at-trailing_zeros w64 n some few in
    grind (arith, nat_tests, bit_at_and, low, cleared (trailing_zeros w64 n) n (n - 1) i (omega arith) low.1 low.2)

module _ (entries bytes : List ℕ) (at : ℕ) (table : AreByteScalars entries) (block : 64 ≤ length bytes) where
  -- a block that is stored as if it were ASCII has the scalars of its ASCII bytes
  pub stored_ascii : (old new : List ℕ) → at ≤ length old → take (at + 64) new ≡ take at old ++ take 64 bytes
      → (i : ℕ) → i < 64 → get_or bytes i 0 < 128 → IsStored entries bytes new at i
  stored_ascii old new within same i h ascii =
      let after = get_or-append-add (take at old) (take 64 bytes) i in
      let place = ap (λ l. get_or l (at + i) 0) same in
      grind (arith, nat_tests, after, place, length-take-le at old, get_or-take (at + 64) new, get_or-take 64 bytes, table.ascii (get_or bytes i 0) ascii)

  -- the same with the scalar of the next byte past ASCII at its place
  pub stored_next : (dst : List ℕ) (past entry : ℕ) → 0 < past → past < 2 ^ 64 → at + 64 ≤ length dst
      → entry ≡ get_or entries (get_or bytes (trailing_zeros w64 past) 0) 0 → (entry ≡ 0 → ⊥)
      → ((i : ℕ) → i < 64 → bit_at past i ≡ 0 → IsStored entries bytes dst at i) → (i : ℕ) → i < 64 → bit_at (bit_and past (past - 1)) i ≡ 0
      → IsStored entries bytes (slice_set dst (at + trailing_zeros w64 past) entry) at i
  stored_next dst past entry some few room is not_none stored i h none =
      grind (arith, nat_tests, without_lowest past i some few none, stored i h, get_or-set_same, get_or-set_other, bit_at-trailing_zeros w64 past some few)

-- the scalars of bytes are their own code units in UTF-16
pub scalars_are_units : (entries bytes : List ℕ) → AreByteScalars entries → all_code_units Utf16 (scalars_of entries bytes) ≡ scalars_of entries bytes
scalars_are_units entries bytes table =
    let below : (b : ℕ) → get_or entries b 0 < 0x1_0000 = λ b. grind (arith, cases_lt b (length entries), table.scalars b 0, get_or_past entries b) in
    own_units (scalars_of entries bytes) (λ k h. grind (arith, below (get_or bytes k 0), get_or-map, length-map))

-- and so each of them is one
pub one_each : (form : EncodingForm) (entries bytes : List ℕ) → bmp_need form ≡ 1 → AreByteScalars entries
    → total_unit_count form (scalars_of entries bytes) ≡ length bytes
one_each Utf8 entries bytes one table = absurd (omega (arith, one))
one_each Utf16 entries bytes one table = ap length (scalars_are_units entries bytes table) ∙ length-map bytes (λ b. get_or entries b 0)

pub ruleset scalar_steps = (common_steps, scalars_are_units, length-take-le, length-map)

pub ruleset store_steps = (nat_tests, stored_scalars, stored_have, bit_at-zero, before_lowest)
