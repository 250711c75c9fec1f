-- Bits that say where scalars begin, and the scalars of one and three bytes of UTF-8 between them.
use Rattle.std.proofs.Common.{◌≡◌, ◌↔◌, ◌∙◌, ℕ, zero, suc, ◌+◌, ◌-◌, ◌*◌, ◌/◌, ◌%◌, ◌^◌, ◌≤◌, ◌<◌, List, [], ◌∷◌, ◌++◌, length, get_or, true, max, min, map}
use Rattle.std.proofs.Common.{take, drop, replicate, refl, ap, ap₂, sym, arith, append_assoc, append-nil, length-append, add-zero, w8, w32, Fits, bit_and}
use Rattle.std.proofs.{Common.{bit_or, cond, leb}, lemmas.{Bool.{Decides.nat_tests, cases_lt}, List.{get_or_past, length-drop, get_or_append_left}}}
use Rattle.std.proofs.lemmas.{List.{get_or-append-add, get_or-drop, length-map}, Nat.{and_le_l, Bits.{bit_at-trailing_zeros, bit_at_lowest, bit_at-suc}}}
use Rattle.std.proofs.lemmas.{Nat.Bits.{bit_at_and, bit_at_or, bit_at_not, bit_at-lt}, List.FromFn.get_or-map-range_with_len, Grind.common_steps}
use Rattle.std.proofs.lemmas.Simd.{mask_l-lt, get_or_wider, Each1-from_get_or, Each1-get_or, get_or-chunk, length-chunk, below_from_Fits}
use Rattle.std.proofs.lemmas.{Simd.{get_or-put_chunk_below, get_or-put_chunk_at, length-put_chunk, get_or-zip2, get_or-replicate}, Str.encode_ascii}
use Rattle.std.specs.{Str.{is_utf8, chars}, List.range_with_len, Int.{bit_at, bit_not, trailing_zeros}, Simd.Lanes.{zip2, number_l, digits_l, put_chunk, chunk}}
use Rattle.std.specs.Simd.Lanes.{Each1}
use lib.Utf8.{encode}
use Rattle.legacy_text.specs.{EncodingForm.{Utf8, unit_count}, ShortScalars.ReadsScalar, ScalarTurns.{IsStart, IsUnitAt, ReadsUnits}, UnitCodes.IsNoSurrogate}
use Rattle.legacy_text.{specs.UnitTurns.AreNoSurrogates, proofs.{Texts.by_first, ShortScalars.{stands, reads_here, reads_ascii}, Ascii.mask_from}}
use Rattle.legacy_text.proofs.{Ascii.{mask_from-is, mask_bit}, CodeUnits.{some_units, encode_2, encode_3, encode_4, total_unit_count-append}}

-- ---- the lowest bit

-- without the lowest bit of n, no bit up to it is set, and all others are unchanged
pub cleared : (t n m k : ℕ) → n ≡ suc m → bit_at n t ≡ 1 → ((i : ℕ) → i < t → bit_at n i ≡ 0) → min (bit_at n k) (bit_at m k) ≡ cond (leb k t) 0 (bit_at n k)
cleared zero n m zero e one none = grind (arith, bit_at_lowest)
cleared zero n m (suc k) e one none = grind (arith, nat_tests, bit_at_lowest n, bit_at-suc)
cleared (suc t) n m zero e one none = grind (arith, nat_tests, none 0)
cleared (suc t) n m (suc k) e one none =
    let half : n / 2 ≡ suc (m / 2) = omega (arith, bit_at_lowest n, none 0 (omega arith)) in
    let rest = cleared t (n / 2) (m / 2) k half (sym (bit_at-suc n t) ∙ one) (λ i h. sym (bit_at-suc n i) ∙ none (suc i) (omega arith)) in
    grind (arith, nat_tests, bit_at-suc m k, bit_at-suc n k, rest)

pub lowest : (n : ℕ) → 0 < n → n < 2 ^ 32 → (k : ℕ)
    → bit_at (bit_and n ((n + 4294967295) % 4294967296)) k ≡ cond (leb k (trailing_zeros w32 n)) 0 (bit_at n k)
lowest n some fits k =
    let at = bit_at-trailing_zeros w32 n some fits in
    let before : (n + 4294967295) % 4294967296 ≡ n - 1 = omega arith in
    rw (before, bit_at_and) (cleared (trailing_zeros w32 n) n (n - 1) k (omega arith) at.1 at.2)

-- ---- the bits of starts

pub mask_from-lt : (x lanes : ℕ) (v : List ℕ) → lanes ≤ 64 → length v ≡ lanes → mask_from x lanes v < 2 ^ lanes
mask_from-lt x lanes v few long = grind (arith, mask_from-is, mask_l-lt, length-map)

starts_from : (byte p l r : ℕ) → ((p ≡ 1) ↔ (128 ≤ byte)) → ((l ≡ 1) ↔ (192 ≤ byte)) → p < 2 → l < 2 → r ≡ max (1 - p) l → (r ≡ 1) ↔ IsStart byte
starts_from byte p l r past leads few few_leads is = grind arith

-- a bit that is not set for a byte of at least 128, or set for one of at least 192, among the next 32 bytes
pub starts_here : (bytes : List ℕ) (place : ℕ) → place + 32 ≤ length bytes → (k : ℕ) → k < 32
    → (bit_at (bit_or (bit_not w32 (mask_from 128 32 (take 32 (drop place bytes)))) (mask_from 192 32 (take 32 (drop place bytes)))) k ≡ 1)
    ↔ IsStart (get_or bytes (place + k) 0)
starts_here bytes place within k h =
    let v = chunk place 32 bytes in
    let long = length-chunk place 32 bytes within in
    let one = bit_at_or (bit_not w32 (mask_from 128 32 v)) (mask_from 192 32 v) k in
    let none = bit_at_not w32 (mask_from 128 32 v) k (mask_from-lt 128 32 v (omega arith) long) h in
    rw (get_or-chunk place 32 bytes k 0 h) at (starts_from (get_or v k 0) _ _ _ (mask_bit 128 refl 32 v (omega arith) long k)
    (mask_bit 192 refl 32 v (omega arith) long k) (bit_at-lt _ k) (bit_at-lt _ k) (rw none at one))

-- ---- lanes of two bytes

-- two bytes as a number, the lower first
pair : (bytes : List ℕ) → 2 ≤ length bytes → number_l 256 (take 2 bytes) ≡ get_or bytes 0 0 + 256 * get_or bytes 1 0
pair bytes h = grind arith

-- a lane of two bytes
pub lane : (n : ℕ) (bytes : List ℕ) (k : ℕ) → ((i : ℕ) → i < 2 * n → get_or bytes i 0 < 256) → length bytes ≡ 2 * n → k < n
    → get_or (digits_l 65536 n (number_l 256 bytes)) k 0 ≡ get_or bytes (2 * k) 0 + 256 * get_or bytes (2 * k + 1) 0
lane n bytes k are long h =
    let each = Each1-from_get_or (λ x. x < 256) bytes 0 (λ i l. are i (omega arith)) in
    grind (arith, nat_tests, length-drop, get_or-drop, get_or_wider 256 2 65536 n bytes k refl each, pair)

-- sixteen bytes, each joined with the same number
pub each_sixteenth : (f : ℕ → ℕ → ℕ) (x : ℕ) (bytes : List ℕ) (place : ℕ) → place + 16 ≤ length bytes → (k : ℕ) → k < 16
    → get_or (zip2 f (take 16 (drop place bytes)) (replicate 16 x)) k 0 ≡ f (get_or bytes (place + k) 0) x
each_sixteenth f x bytes place within k h =
    get_or-zip2 f (chunk place 16 bytes) (replicate 16 x) k 0 0 0 (omega (arith, length-chunk place 16 bytes within)) h
    ∙ ap₂ f (get_or-chunk place 16 bytes k 0 h) (get_or-replicate 16 k x 0 h)

-- the lanes of a vector of bytes
pub below_256 : (v : List ℕ) → Each1 (Fits w8) v → (i : ℕ) → get_or v i 0 < 256
below_256 v fits i = grind (arith, cases_lt, Each1-get_or, below_from_Fits, w8, get_or_past)

-- the interleaved entries of two lists of sixteen, n of each from `a` on
abbrev pub woven : ℕ → ℕ → List ℕ → List ℕ
woven zero a xs = []
woven (suc n) a xs = get_or xs a 0 ∷ get_or xs (a + 16) 0 ∷ woven n (a + 1) xs

words : (n a : ℕ) (xs : List ℕ) → ((i : ℕ) → get_or xs i 0 < 256)
    → digits_l 65536 n (number_l 256 (woven n a xs)) ≡ map (λ i. get_or xs i 0 + 256 * get_or xs (i + 16) 0) (range_with_len a n)
words zero a xs are = refl
words (suc n) a xs are = grind (arith, are a, are (a + 16), words n (a + 1) xs are)

module _ (lows highs : List ℕ) (count : length lows ≡ 16) (low : Each1 (Fits w8) lows) (high : Each1 (Fits w8) highs) where
  are : (i : ℕ) → get_or (lows ++ highs) i 0 < 256
  are i = grind (arith, nat_tests, get_or_append_left, get_or-append-add lows highs (i - 16), below_256 lows low i, below_256 highs high (i - 16))

  -- a lane of eight of them, from one on
  pub joined_lane : (a k i : ℕ) → a + k ≡ i → i < 16 → k < 8
      → get_or (digits_l 65536 8 (number_l 256 (woven 8 a (lows ++ highs)))) k 0 ≡ get_or lows i 0 + 256 * get_or highs i 0
  joined_lane a k i is within h =
      ap (λ l. get_or l k 0) (words 8 a (lows ++ highs) are)
      ∙ get_or-map-range_with_len (λ i. get_or (lows ++ highs) i 0 + 256 * get_or (lows ++ highs) (i + 16) 0) a 8 k i 0 h is
      ∙ grind (arith, get_or_append_left, get_or-append-add lows highs i)

-- two vectors that are stored from a place on are there
pub stored_at : (P : ℕ → ℕ → Type 0) (all front back : List ℕ) (at : ℕ) → length front ≡ 8 → length back ≡ 8 → at + 16 ≤ length all
    → ((k : ℕ) → k < 8 → P k (get_or front k 0)) → ((k : ℕ) → k < 8 → P (8 + k) (get_or back k 0))
    → (k : ℕ) → k < 16 → P k (get_or (put_chunk (at + 8) (put_chunk at all front) back) (at + k) 0)
stored_at P all front back at long long_back room first others k h = grind (arith, nat_tests, get_or-put_chunk_below, get_or-put_chunk_at, length-put_chunk)

-- ---- scalars

-- a byte that is not the first of a scalar
tail_at : (c k : ℕ) → 0 < k → k < unit_count Utf8 c → (128 ≤ get_or (encode c) k 0) × (get_or (encode c) k 0 < 192)
tail_at c k some few = grind (arith, nat_tests, common_steps, encode_ascii, encode_2, encode_3, encode_4)

module _ (text : List ℕ) (place : ℕ) (inside : place < length text) (u : is_utf8 (drop place text) ≡ true) where
  -- a scalar begins with such a byte
  pub start_here : IsStart (get_or text place 0)
  start_here = grind (arith, by_first, get_or-drop, stands text place inside u)

  -- no other byte of the scalar is such a byte
  pub no_start : (k : ℕ) → 0 < k → k < unit_count Utf8 (get_or (chars (drop place text)) 0 0) → IsStart (get_or text (place + k) 0) → ⊥
  no_start k some_k few start = grind (arith, get_or-drop place text k 0, stands text place inside u, get_or_append_left, tail_at)

  -- the code unit at the beginning of a scalar is this scalar, if it is not a surrogate
  pub unit_is : place + 2 ≤ length text → (unit : ℕ) → IsUnitAt text place unit → IsNoSurrogate unit → unit ≡ get_or (chars (drop place text)) 0 0
  unit_is two unit made bmp = grind (arith, reads_ascii text place inside u, stands text place inside u, by_first, get_or-drop)

-- the next place at which a scalar begins is the one after the scalar
next_is : (text : List ℕ) (start p q : ℕ) → start + 32 ≤ length text → p < q → q < 32 → is_utf8 (drop (start + p) text) ≡ true →
    IsStart (get_or text (start + q) 0)
    → ((j : ℕ) → p < j → j < q → IsStart (get_or text (start + j) 0) → ⊥) → start + q ≡ start + p + unit_count Utf8 (get_or (chars (drop (start + p) text)) 0 0)
next_is text start p q long more few u at_q none =
    let n = unit_count Utf8 (get_or (chars (drop (start + p) text)) 0 0) in
    let apart = no_start text (start + p) (omega arith) u (q - p) in
    grind (arith, nat_tests, reads_here text (start + p), some_units, start_here, none (p + n))

-- ---- turns

-- one more code unit
units_more : (text : List ℕ) (start : ℕ) (units : List ℕ) (place c past unit : ℕ) → ReadsUnits text start units place → ReadsScalar text place c past
    → (IsNoSurrogate unit → unit ≡ c) → ReadsUnits text start (units ++ unit ∷ []) past
units_more text start units place c past unit before r is = record {
  is_text = r.is_text;
  within = r.within;
  front = λ bmp. let own = both bmp in grind (arith, is own.1, before.front own.0, r.left, append_assoc);
  passed = λ bmp. let own = both bmp in grind (arith, is own.1, before.passed own.0, r.passed, total_unit_count-append, append-nil);
}
  where
    both : AreNoSurrogates (units ++ unit ∷ []) → AreNoSurrogates units × IsNoSurrogate unit
    both bmp = (λ k h. grind (arith, get_or_append_left, bmp k, length-append), grind (arith, bmp (length units + 0), get_or-append-add, length-append))

-- code units were read up to the lowest bit, and the bits from there on say where scalars begin
pub record StandsAfter (text : List ℕ) (start : ℕ) (units : List ℕ) (bits : ℕ) : Type 0 where
  pub reads : ReadsUnits text start units (start + trailing_zeros w32 bits)
  pub starts : (k : ℕ) → trailing_zeros w32 bits ≤ k → k < 32 → (bit_at bits k ≡ 1) ↔ IsStart (get_or text (start + k) 0)

pub stands_first : (text : List ℕ) (start bits : ℕ) → start + 34 ≤ length text → is_utf8 (drop start text) ≡ true
    → ((k : ℕ) → k < 32 → (bit_at bits k ≡ 1) ↔ IsStart (get_or text (start + k) 0)) → bits < 2 ^ 32 → 0 < bits → StandsAfter text start [] bits
stands_first text start bits long u starts fits some =
    grind (arith, nat_tests, bit_at-trailing_zeros w32 bits some fits, starts 0, start_here text start (omega arith) u, add-zero)

pub stands_more : (text : List ℕ) (start : ℕ) (units : List ℕ) (bits unit : ℕ) → start + 34 ≤ length text → 0 < bits → bits < 2 ^ 32
    → let rest = bit_and bits ((bits + 4294967295) % 4294967296) in 0 < rest
    → ((k : ℕ) → k < 32 → k ≡ trailing_zeros w32 bits → IsUnitAt text (start + k) unit) → StandsAfter text start units bits
    → StandsAfter text start (units ++ unit ∷ []) rest
stands_more text start units bits unit long some fits some_rest made s =
    let rest = bit_and bits ((bits + 4294967295) % 4294967296) in
    let fits_rest : rest < 2 ^ 32 = omega (arith, fits, and_le_l bits ((bits + 4294967295) % 4294967296)) in
    let gone : (k : ℕ) → k ≤ trailing_zeros w32 bits → bit_at rest k ≡ 0 = λ k l. grind (arith, nat_tests, lowest bits some fits k) in
    let others : (k : ℕ) → trailing_zeros w32 bits < k → bit_at rest k ≡ bit_at bits k = λ k l. grind (arith, nat_tests, lowest bits some fits k) in
    let p = trailing_zeros w32 bits in
    let q = trailing_zeros w32 rest in
    let at = bit_at-trailing_zeros w32 bits some fits in
    let next = bit_at-trailing_zeros w32 rest some_rest fits_rest in
    let more : p < q = grind (arith, nat_tests, gone q) in
    let begins : IsStart (get_or text (start + q) 0) = grind (arith, s.starts q, others q) in
    let inside : start + p < length text = omega (arith, at.0, long) in
    let place = next_is text start p q (omega (arith, long)) more next.0 s.reads.is_text begins
    (λ j l m start_j. omega (arith, others j l, next.2 j m, (s.starts j (omega (arith, l)) (omega (arith, m, next.0))).1 start_j)) in
    record {
      reads =
          rw place (units_more text start units (start + p) _ _ unit s.reads
          (reads_here text (start + p) inside s.reads.is_text)
          (unit_is text (start + p) inside s.reads.is_text (omega (arith, at.0, long)) unit (made p at.0 refl)));
      starts = λ k l h. grind (arith, others k, s.starts k);
    }

pub ruleset store_steps = (get_or-put_chunk_below)
