-- Growing sets of pointers.
use Rattle.std.proofs.Common.{◌≡◌, ◌≢◌, ℕ, ◌*◌, ◌/◌, ◌%◌, ◌^◌, ◌<◌, ◌==◌, List, length, replicate, slice_index, slice_set, get_or-set_other, get_or-set_same}
use Rattle.std.proofs.{Common.{bit_or, w64, arith, true, inl, inr}, lemmas.Bool.{cases_eq, cases_lt, eqb-true}, lemmas.List.{get_or-replicate, get_or_past}}
use Rattle.std.proofs.{lemmas.List.length-replicate, lemmas.Nat.Bits.{bit_at-zero, bit_at_set_other}}
use Rattle.std.specs.{Int.bit_at, List.list_any}
use Rattle.legacy_tables.specs.PointerSets.{HasOnly, is_in_blocks}

-- an empty set
pub none-yet : (count : ℕ) (order : List ℕ) → HasOnly (replicate count 0) order
none-yet count order = record {
  only = λ p e.
      let clear = bit_at-zero (p % 64) in
      let set : bit_at 0 (p % 64) ≡ 1 = eqb-true _ 1 (rw (zeros (p / 64)) at e) in
      absurd (omega arith);
}
  where
    zeros : (i : ℕ) → slice_index (replicate count 0) i ≡ 0
    zeros i = elim (cases_lt i count) [
      | inl h ↦ get_or-replicate count i 0 0 h
      | inr h ↦ get_or_past (replicate count 0) i 0 (rw (length-replicate {A = ℕ} count 0) h)
    ]

-- one more pointer of the order
pub only-more : (blocks order : List ℕ) (p : ℕ) → HasOnly blocks order → p / 64 < length blocks → list_any (λ r. p == r) order ≡ true
    → HasOnly (slice_set blocks (p / 64) (bit_or (slice_index blocks (p / 64)) (1 * 2 ^ (p % 64) % 2 ^ 64))) order
only-more blocks order p now within held = record { only = λ q e. go q e }
  where
    word : ℕ
    word = bit_or (slice_index blocks (p / 64)) (1 * 2 ^ (p % 64) % 2 ^ 64)

    go : (q : ℕ) → is_in_blocks (slice_set blocks (p / 64) word) q ≡ true → list_any (λ r. q == r) order ≡ true
    go q e = elim (cases_eq q p) [
      | inl same ↦ rw same held
      | inr other ↦ elim (cases_eq (q / 64) (p / 64)) [
        | inl block ↦
            let bit : q % 64 ≢ p % 64 = λ is. other (omega arith) in
            let kept = bit_at_set_other w64 (slice_index blocks (p / 64)) (p % 64) (omega arith) (q % 64) bit in
            now.only q (rw block (rw (block, get_or-set_same blocks (p / 64) word 0 within, kept) at e))
        | inr apart ↦ now.only q (rw (get_or-set_other blocks (p / 64) (q / 64) word 0 apart) at e)
      ]
    ]
