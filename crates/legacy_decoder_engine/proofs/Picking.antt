-- Codes of two bytes at places, by a shuffle from a table, and the forms that are picked at their starts.
use Rattle.std.proofs.Common.{◌≡◌, ◌∙◌, ℕ, zero, suc, ◌+◌, ◌-◌, ◌*◌, ◌/◌, ◌%◌, ◌^◌, ◌<◌, ◌≤◌, min, true, eqb, List, [], ◌∷◌, ◌++◌, length, get_or, map, take}
use Rattle.std.proofs.Common.{drop, replicate, refl, sym, ap, ap₂, arith, Bool, false, cond, ltb, bit_and, bit_or, bit_xor, append_assoc, append-nil, w8, Fits}
use Rattle.std.proofs.lemmas.{Bool.{leb-true, eqb-true, agree_below_at, cases_lt, Decides.nat_tests}, Nat.{and_mask, pow_pos, shr-shr}}
use Rattle.std.proofs.lemmas.Nat.Bits.{ones_shr, bit_at-suc, bit_at-lt, bit_at_and, bit_at_xor, bit_at_or, bit_at_ones, shr_and_one}
use Rattle.std.proofs.{lemmas.List.{take-take, take-map, length-take-le, take-append-le, map-append}, Math.Nat.{div-eq_of_lt, mod-lt}}
use Rattle.std.proofs.{lemmas.Simd.{swz_l, get_or-chunk, put_chunk_is}, Math.Seq.{take-append_seam, take-append-add, drop-cons}}
use Rattle.std.specs.{List.range_with_len, Int.{bit_at, RustNames.count_ones}}
use Rattle.legacy_text.{proofs.{UnitLanes.{shuffled, each_below}, ScalarTurns.below_256}, specs.PastAscii.ArePast}
use Rattle.legacy_decoder_engine.specs.{PickedForms.{places, pairs, row, code_at, form_of, forms_of, AreStarts, IsEnd}, declared.picks.TheConstants.PICKED}
use lib.{Lanes.{Each1, number_l, digits_l, all_below, chunk, put_chunk}, Pow.{field, mod-mod-pow}}

abbrev pub eight_places : ℕ → List ℕ
eight_places x = take 8 (places 0 8 x ++ replicate 8 0)

-- ---- the table

pub rows_are : PICKED ≡ map row (range_with_len 0 256)
unfolding row places
rows_are = refl

pub row_within : (x : ℕ) → x < 256 → Each1 (λ j. j < 16) (row x)
unfolding row places
row_within x h = each_below 16 (row x) (agree_below_at (λ n. all_below 16 (row n)) (λ _. true) 256 x refl h)

pub row_long : (x : ℕ) → x < 256 → length (row x) ≡ 16
unfolding row places
row_long x h = eqb-true (length (row x)) 16 (agree_below_at (λ n. eqb (length (row n)) 16) (λ _. true) 256 x refl h)

eight_long : (x : ℕ) → x < 256 → length (eight_places x) ≡ 8
unfolding places
eight_long x h = eqb-true (length (eight_places x)) 8 (agree_below_at (λ n. eqb (length (eight_places n)) 8) (λ _. true) 256 x refl h)

places_most : (x : ℕ) → x < 256 → length (places 0 8 x) ≤ 8
unfolding places
places_most x h = grind (arith, nat_tests, leb-true, agree_below_at)

-- ---- two bytes as one lane

codes : (xs : List ℕ) (small : (j : ℕ) → get_or xs j 0 < 256) (ps : List ℕ)
    → digits_l 65536 (length ps) (number_l 256 (map (λ j. get_or xs j 0) (pairs ps))) ≡ map (code_at xs) ps
codes xs small [] = refl
codes xs small (p ∷ ps) = grind (arith, small p, small (p + 1), codes xs small ps)

all_codes : (xs : List ℕ) → Each1 (Fits w8) xs → (x : ℕ) → x < 256
    → digits_l 65536 8 (number_l 256 (swz_l w8 16 xs 0 (row x))) ≡ map (code_at xs) (eight_places x)
unfolding row
all_codes xs fits x h =
    ap (λ l. digits_l 65536 8 (number_l 256 l)) (shuffled xs 0 (row x) (omega (arith, row_long x h)) (row_within x h))
    ∙ ap (λ n. digits_l 65536 n (number_l 256 (map (λ j. get_or xs j 0) (row x)))) (sym (eight_long x h)) ∙ codes xs (below_256 xs fits) (eight_places x)

pub codes_picked : (xs : List ℕ) → Each1 (Fits w8) xs → (x : ℕ) → x < 256
    → take (length (places 0 8 x)) (digits_l 65536 8 (number_l 256 (swz_l w8 16 xs 0 (row x)))) ≡ map (code_at xs) (places 0 8 x)
codes_picked xs fits x h = simp (all_codes, take-map, take-take, places_most, take-append_seam)

counted : (x : ℕ) → x < 256 → count_ones x ≡ length (places 0 8 x)
unfolding places count_ones
counted x h = eqb-true (count_ones x) (length (places 0 8 x)) (agree_below_at (λ n. eqb (count_ones n) (length (places 0 8 n))) (λ _. true) 256 x refl h)

moved : (bs : List ℕ) (from base n x : ℕ) → base + n < 16 → map (code_at (chunk from 16 bs)) (places base n x) ≡ map (code_at bs) (places (from + base) n x)
unfolding places
moved bs from base zero x h = refl
moved bs from base (suc n) x h =
    grind (arith, nat_tests, get_or-chunk from 16 bs base 0, get_or-chunk from 16 bs (base + 1) 0, moved bs from (base + 1) n (x / 2))

-- codes that are stored at a place of a list
pub codes_stored : (block : List ℕ) (from x : ℕ) (all found : List ℕ) (at : ℕ) → x < 256 → length found ≡ 8 → at + 8 ≤ length all
    → take (length (places 0 8 x)) found ≡ map (code_at (chunk from 16 block)) (places 0 8 x)
    → take (at + count_ones x) (put_chunk at all found) ≡ take at all ++ map (code_at block) (places from 8 x)
codes_stored block from x all found at small long room e =
    let place : at + count_ones x ≡ length (take at all) + length (places 0 8 x) = omega (arith, counted x small, length-take-le at all) in
    let same = moved block from 0 8 x (omega arith) in
    grind (arith, nat_tests, put_chunk_is, take-append-add, take-append-le, places_most x small)

pub low_places : (b k x : ℕ) → places b k (x % 2 ^ k) ≡ places b k x
unfolding places
low_places b zero x = refl
low_places b (suc k) x = grind (arith, nat_tests, mod-mod-pow x k 1, field x k 1, low_places (b + 1) k (x / 2))

pub split_places : (b k m x : ℕ) → places b (k + m) x ≡ places b k x ++ places (b + k) m (x / 2 ^ k)
unfolding places
split_places b zero m x = grind arith
split_places b (suc k) m x =
    let n : suc k + m ≡ suc (k + m) = omega arith in
    ap (λ i. places b i x) n ∙ rw (split_places (b + 1) k m (x / 2)) (grind (arith, nat_tests, shr-shr x 1 k))

-- one turn of the loop: eight more places
pub next_eight : (f : ℕ → ℕ) (g x count count_next : ℕ) (codes_before codes_after : List ℕ) (all : List ℕ) → g < 8
    → all ≡ take count codes_before ++ map f (places (8 * g) (64 - 8 * g) x)
    → take count_next codes_after ≡ take count codes_before ++ map f (places (8 * g) 8 (x % 256))
    → all ≡ take count_next codes_after ++ map f (places (8 * (g + 1)) (64 - 8 * (g + 1)) (x / 256))
next_eight f g x count count_next before after all h e s =
    grind (arith, map-append, append_assoc, split_places (8 * g) 8 (64 - 8 * (g + 1)) x, low_places (8 * g) 8 x)

-- after the last turn no places are left
pub no_more : (f : ℕ → ℕ) (g x : ℕ) (before : List ℕ) → g ≡ 8 → before ++ map f (places (8 * g) (64 - 8 * g) x) ≡ before
unfolding places
no_more f g x before e = ap (λ k. before ++ map f (places (8 * k) (64 - 8 * k) x)) e ∙ append-nil before

no_places : (b n : ℕ) → places b n 0 ≡ []
unfolding places
no_places b zero = refl
no_places b (suc n) = no_places (b + 1) n

places_below : (b k m x : ℕ) → places b (k + m) (x % 2 ^ k) ≡ places b k x
places_below b k m x = grind (arith, nat_tests, split_places, div-eq_of_lt, mod-lt, pow_pos, no_places, append-nil, low_places)

-- the starts below an end
pub below_end : (end x : ℕ) → end ≤ 64 → places 0 64 (bit_and x ((2 ^ 64 - 1) / 2 ^ (64 - end))) ≡ places 0 end x
below_end end x h =
    let m : (2 ^ 64 - 1) / 2 ^ (64 - end) ≡ 2 ^ (64 - (64 - end)) - 1 = ones_shr 64 (64 - end) (omega arith) in
    grind (arith, and_mask, places_below 0 end (64 - end) x)

-- ---- the starts of forms

-- bits that pass the check are the starts of forms
pub asked : (past starts : ℕ) → bit_at starts 0 ≡ 1 → bit_and (bit_xor (starts / 2) (bit_and starts past)) (2 ^ 63 - 1) ≡ 2 ^ 63 - 1 → AreStarts past starts
asked past starts first all = grind (arith, bit_at_and, bit_at_xor, bit_at-suc, bit_at_ones 63, bit_at-lt, λ (i : ℕ). ap (λ n. bit_at n i) all)

pub lowest_set : (n : ℕ) → bit_at (bit_or n 1) 0 ≡ 1
lowest_set n = rw bit_at_or (omega arith)

-- the form at a place and the bytes after it are the bytes from there on
form_there : (xs : List ℕ) (i m : ℕ) (t : Bool) → i + 1 < length xs → cond t 0 1 ≤ m
    → cond t (get_or xs i 0 ∷ []) (get_or xs i 0 ∷ get_or xs (i + 1) 0 ∷ []) ++ take (m - cond t 0 1) (drop (i + 1 + cond t 0 1) xs) ≡ take (suc m) (drop i xs)
form_there xs i m true h room =
    let rest : m - 0 ≡ m = omega arith in
    let next : i + 1 + 0 ≡ suc i = omega arith in
    rw (rest, next, drop-cons xs i 0 (omega arith)) refl
form_there xs i zero false h room = absurd (omega arith)
form_there xs i (suc m) false h room =
    let rest : suc m - 1 ≡ m = omega arith in
    let one : i + 1 ≡ suc i = omega arith in
    let two : i + 1 + 1 ≡ suc (suc i) = omega arith in
    rw (two, one, drop-cons xs i 0 (omega arith), drop-cons xs (suc i) 0 (omega arith)) (cc)

module _ (block : List ℕ) (past starts end : ℕ) (long : 72 ≤ length block) (small : (j : ℕ) → get_or block j 0 < 256)
    (are_past : ArePast past block) (are : AreStarts past starts) (most : end ≤ 64) (is_end : IsEnd past starts end) where
  abbrev forms : ℕ → ℕ → List ℕ
  forms n i = forms_of (map (code_at block) (places i n (starts / 2 ^ i)))

  -- no form starts at byte i, so it is the second of two
  skipped : (m i : ℕ) → bit_at starts i ≡ 0 → forms (suc m) i ≡ forms m (i + 1)
  unfolding places
  skipped m i none = let half = shr-shr starts i 1 in grind (arith, nat_tests)

  started : (m i : ℕ) → bit_at starts i ≡ 1 → forms (suc m) i ≡ form_of (code_at block i) ++ forms m (i + 1)
  unfolding places
  started m i some = let half = shr-shr starts i 1 in grind (arith, nat_tests)

  -- the form that starts at byte i has two bytes if that byte is past ASCII
  taken : (m i : ℕ) → i < 64 → bit_at past i ≤ m
      → form_of (code_at block i) ++ take (m - bit_at past i) (drop (i + 1 + bit_at past i) block) ≡ take (suc m) (drop i block)
  taken m i h room =
      let first : code_at block i % 256 ≡ get_or block i 0 = omega arith in
      let second : code_at block i / 256 ≡ get_or block (i + 1) 0 = omega arith in
      rw (first, second, are_past i h) (form_there block i m (ltb (get_or block i 0) 128) (omega arith) (rw (are_past i h) at room))

  -- a second byte is before the end
  room_left : (m i : ℕ) → i + suc m ≡ end → bit_at starts i ≡ 1 → bit_at past i ≤ m
  room_left m i e is = grind (arith, is_end, bit_at-lt)

  next_starts : (i : ℕ) → i < 63 → bit_at starts (i + 1) ≡ 1 - min (bit_at starts i) (bit_at past i)
  next_starts i h = grind (arith, bit_at-lt, are.next)

  -- the forms from byte i on; k is 1 if that byte belongs to the form before it
  fronts : (n i k : ℕ) → i + n ≡ end → k ≤ n → k ≤ 1 → (0 < n → bit_at starts i ≡ 1 - k) → forms n i ≡ take (n - k) (drop (i + k) block)
  unfolding places
  fronts zero i k e few one here = grind arith
  fronts (suc m) i zero e few one here =
      let is = here (omega arith) in
      let place : i + 0 ≡ i = omega arith in
      let all : suc m - 0 ≡ suc m = omega arith in
      let rest = fronts m (i + 1) (bit_at past i) (omega arith) (room_left m i e is) (omega (arith, bit_at-lt past i))
      (λ h. omega (arith, next_starts i (omega arith), is, bit_at-lt past i)) in
      rw (started m i is, rest, place, all) (taken m i (omega arith) (room_left m i e is))
  fronts (suc m) i (suc k) e few one here =
      let none : bit_at starts i ≡ 0 = omega (arith, here (omega arith)) in
      let count : m - 0 ≡ suc m - suc k = omega arith in
      let place : i + 1 + 0 ≡ i + suc k = omega arith in
      let rest = fronts m (i + 1) 0 (omega arith) (omega arith) (omega arith) (λ h. omega (arith, next_starts i (omega arith), none)) in
      skipped m i none ∙ rest ∙ ap₂ (λ (n p : ℕ). take n (drop p block)) count place

  pub picked : forms_of (map (code_at block) (places 0 end starts)) ≡ take end block
  picked = grind (arith, fronts end 0 0, are.first)

-- no form of two bytes starts at the byte before one that starts such a form
apart : (past starts n : ℕ) → AreStarts past starts → n < 63 → bit_at (bit_and starts past) (suc n) ≡ 1 → bit_at (bit_and starts past) n ≡ 0
apart past starts n are h e = grind (arith, bit_at_and, bit_at-lt, are.next)

pub whole_end : (past starts limit : ℕ) → AreStarts past starts → 0 < limit → limit ≤ 64
    → IsEnd past starts (limit - bit_and (bit_and starts past / 2 ^ (limit - 1)) 1)
whole_end past starts limit are some most h = grind (arith, nat_tests, shr_and_one, bit_at-lt, bit_at_and, cases_lt, apart)

-- a byte of the block that is loaded
pub front_chunk : (xs : List ℕ) (i : ℕ) → i < 64 → get_or (chunk 0 64 xs) i 0 ≡ get_or xs i 0
front_chunk xs i h = let z : 0 + i ≡ i = omega arith in get_or-chunk 0 64 xs i 0 h ∙ ap (λ k. get_or xs k 0) z
