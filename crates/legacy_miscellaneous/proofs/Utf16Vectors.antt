-- The units of a vector of bytes, and the greater ones of two vectors.
use Rattle.std.proofs.Common.{◌≡◌, ◌∙◌, ℕ, ◌+◌, ◌-◌, ◌*◌, ◌%◌, ◌<◌, ◌≤◌, List, ◌++◌, Bool, true, false, length, map, take, get_or, sym, subst, arith, zero, suc}
use Rattle.std.proofs.{Common.{◌^◌, cond, ltb, ◌∷◌}, lemmas.{Bool.Decides.nat_tests, List.FromFn.{get_or-map-range_with_len, length-map-range_with_len}}}
use Rattle.std.{proofs.lemmas.List.{get_or-take, get_or_append_left, length-take-le}, specs.{List.range_with_len, Simd.Lanes.{number_l, digits_l}}}
use Rattle.{legacy_tables.specs.Unicode.IsByte, legacy_text.proofs.ScalarTurns.lane, legacy_miscellaneous.specs.Utf16Decoder.{unit_at, AreBelow}}
use Rattle.std.proofs.{Common.{ap, replicate, w16, Fits}, lemmas.{List.{length-map, get_or-map}, Simd.{zip2_splat, bitmask_splat, bit_mask_l, Each1-get_or}}}
use Rattle.std.specs.{Char.IsScalar, Int.bit_at}
use lib.Lanes.{Each1, zip2, sel_l, top, mask_l}

-- units in little-endian order
pub little : (n : ℕ) (be : Bool) (src : List ℕ) → be ≡ false → 2 * n ≤ length src → ((i : ℕ) → IsByte (get_or src i 0)) → (k : ℕ) → k < n
    → get_or (digits_l 65536 n (number_l 256 (take (2 * n) src))) k 0 ≡ unit_at be src k
little n be src is within are k h =
    lane n (take (2 * n) src) k (λ i l. subst IsByte (sym (get_or-take (2 * n) src i 0 l)) (are i)) (length-take-le (2 * n) src within) h
    ∙ rw (is, get_or-take (2 * n) src (2 * k) 0 (omega arith), get_or-take (2 * n) src (2 * k + 1) 0 (omega arith)) (omega arith)

-- ---- units in big-endian order: the bytes of each are swapped

abbrev swapped : ℕ → List ℕ → List ℕ
swapped n src = map (λ i. get_or (take (2 * n) src ++ take (2 * n) src) (i + 1 - 2 * (i % 2)) 0) (range_with_len 0 (2 * n))

swapped_at : (n : ℕ) (src : List ℕ) → 2 * n ≤ length src → (i : ℕ) → i < 2 * n → get_or (swapped n src) i 0 ≡ get_or src (i + 1 - 2 * (i % 2)) 0
swapped_at n src within i h =
    let swap : ℕ → ℕ = λ i. get_or (take (2 * n) src ++ take (2 * n) src) (i + 1 - 2 * (i % 2)) 0 in
    grind (arith, get_or-map-range_with_len swap 0 (2 * n) i, get_or_append_left, get_or-take, length-take-le)

pub big : (n : ℕ) (be : Bool) (src : List ℕ) → be ≡ true → 2 * n ≤ length src → ((i : ℕ) → IsByte (get_or src i 0)) → (k : ℕ) → k < n
    → get_or (digits_l 65536 n (number_l 256 (swapped n src))) k 0 ≡ unit_at be src k
big n be src is within are k h =
    let high : 2 * k + 1 + 1 - 2 * ((2 * k + 1) % 2) ≡ 2 * k = omega arith in
    let low : 2 * k + 1 - 2 * ((2 * k) % 2) ≡ 2 * k + 1 = omega arith in
    let long = length-map-range_with_len (λ i. get_or (take (2 * n) src ++ take (2 * n) src) (i + 1 - 2 * (i % 2)) 0) 0 (2 * n) in
    lane n (swapped n src) k (λ i l. rw (swapped_at n src within i l) (are (i + 1 - 2 * (i % 2)))) long h
    ∙ rw (is, swapped_at n src within (2 * k + 1) (omega arith), swapped_at n src within (2 * k) (omega arith), high, low) (omega arith)

-- ---- the greater of two units, lane by lane

abbrev greater : List ℕ → List ℕ → List ℕ
greater xs ys = sel_l (map (top 15) (zip2 (λ a b. cond (ltb a b) (2 ^ 16 - 1) 0) xs ys)) ys xs

pub both_below : (n : ℕ) (xs ys : List ℕ) → length xs ≡ length ys → AreBelow n (greater xs ys) → AreBelow n xs × AreBelow n ys
both_below n (x ∷ xs) (y ∷ ys) long below =
    let tail = both_below n xs ys (omega arith) (λ k h. below (suc k) (omega arith)) in
    grind (arith, nat_tests, below zero, tail)
both_below n xs ys long below = grind arith

-- ---- surrogates

-- the distances from D800, which wrap
abbrev distances : List ℕ → List ℕ
distances us = zip2 (λ a b. (a + (2 ^ 16 - b)) % 2 ^ 16) us (replicate 8 55296)

-- a lane without the bit is no surrogate
pub scalar_lane : (us : List ℕ) → length us ≡ 8 → Each1 (Fits w16) us → (k : ℕ) → k < 8
    → bit_at (mask_l (map (top 15) (zip2 (λ a b. cond (ltb a b) (2 ^ 16 - 1) 0) (distances us) (replicate 8 2048))) % 2 ^ 64) k ≡ 0 → IsScalar (get_or us k 0)
scalar_lane us long fits k h unset =
    let moved : distances us ≡ map (λ u. (u + 10240) % 65536) us = zip2_splat (λ a b. (a + (2 ^ 16 - b)) % 2 ^ 16) us 8 55296 long in
    let same = ap length moved ∙ length-map us (λ u. (u + 10240) % 65536) ∙ long in
    let bit = rw (bitmask_splat w16 ltb (distances us) 8 2048 same (omega arith)) at unset in
    let none : ltb (get_or (distances us) k 0) 2048 ≡ false = grind (arith, nat_tests, bit_mask_l (map (λ d. ltb d 2048) (distances us)) k, get_or-map, bit) in
    let fit = (Each1-get_or (Fits w16) us k 0 (omega arith) fits).fits in
    grind (arith, nat_tests, rw moved at none, get_or-map, fit)
