-- Vectors lane by lane: a vector is written out as the list of its lanes.
use Rattle.std.proofs.Common.{◌≡◌, ℕ, zero, suc, ◌+◌, ◌-◌, ◌*◌, ◌/◌, ◌%◌, ◌^◌, ◌<◌, ◌≤◌, Bool, true, cond, ltb, leb, eqb, List, [], ◌∷◌, ◌++◌, length, get_or}
use Rattle.std.proofs.Common.{map, take, drop, replicate, bit_and, refl, sym, ap, ap₂, ◌∙◌, arith, subst, zero-add, w8, w16, Fits, ◌&&◌, mod-lt, zero-lt-suc}
use Rattle.std.proofs.{Common.{mul_assoc, length-append, All}, lemmas.{Bool.{leb-true, eqb-true, and_parts, agree_below_at}, List.{map-append, append_assoc}}}
use Rattle.std.proofs.{lemmas.List.{length-replicate, length-take-le, take-take, take-map, length-map, FromFn.get_or-range_with_len}, Math.Seq.take-append_seam}
use Rattle.std.proofs.lemmas.{Nat.{and_mask, Bits.{and_high, bit_at_ones}}, Simd.{mask_l-lt, swz_l, SwzOk, SwzOk-from_below, Each1-get_or}}
use Rattle.std.proofs.{lemmas.{Simd.{bitmask_splat, bit_mask_l}, Grind.{flat_map-append, common_steps}, Bool.Decides.nat_tests}, Math.ListN.get_or-map}
use Rattle.std.specs.{Char.encode_utf8, List.range_with_len, Int.RustNames.count_ones}
use lib.Lanes.{Each1, zip2, sel_l, mask_l, top, number_l, digits_l, pick_l, all_below}
use Rattle.legacy_text.specs.{declared.unit_rows.TheConstants.{WRITTEN, COUNTS, SHORT_WRITTEN}, UnitBytes.{last_byte, front_bytes, lanes, flags, pattern}}
use Rattle.legacy_text.specs.UnitBytes.{places, row, utf8_bytes, short_bytes, short_lanes, short_pattern, short_places, short_row, AreShort}
use Rattle.legacy_text.proofs.{Ascii.{mask_from, mask_from-is}, VectorUnits.free-after}

-- ---- eight lanes

-- a property of any eight lanes that fit is a property of a vector
pub of_eight : (P : List ℕ → Type 0) → ((a b c d e f g h : ℕ) → a < 65536 → b < 65536 → c < 65536 → d < 65536 → e < 65536 → f < 65536 → g < 65536 → h < 65536
    → P (a ∷ b ∷ c ∷ d ∷ e ∷ f ∷ g ∷ h ∷ [])) → (v : List ℕ) → length v ≡ 8 → Each1 (Fits w16) v → P v
of_eight P p (a ∷ b ∷ c ∷ d ∷ e ∷ f ∷ g ∷ h ∷ []) n (sa, (sb, (sc, (sd, (se, (sf, (sg, (sh, _)))))))) =
    p a b c d e f g h sa.fits sb.fits sc.fits sd.fits se.fits sf.fits sg.fits sh.fits
of_eight P p v n s = absurd (omega arith)

-- ---- the bytes of one code unit

pub last_is : (u : ℕ) → u < 65536 → cond (top 15 (cond (ltb u 128) (2 ^ 16 - 1) 0)) u ((bit_and u 63 + 128) % 2 ^ 16) ≡ last_byte u
last_is u small = grind (arith, common_steps, and_mask)

pub front_is : (u : ℕ) → u < 65536
    → (((u / 2 ^ 12 + 224) % 2 ^ 16 + bit_and (u * 2 ^ 2 % 2 ^ 16) 16128) % 2 ^ 16 + cond (top 15 (cond (ltb u 2048) (2 ^ 16 - 1) 0)) 49152 32768) % 2 ^ 16
    ≡ front_bytes u
front_is u small = grind (arith, and_high (u * 2 ^ 2 % 2 ^ 16) 6 8)

pub unit_is : (u : ℕ) → u < 65536 → let last = last_byte u % 256 in let middle = front_bytes u / 256 in
    cond (ltb u 128) (last ∷ []) (cond (ltb u 2048) (middle ∷ last ∷ []) (front_bytes u % 256 ∷ middle ∷ last ∷ [])) ≡ encode_utf8 u
unfolding encode_utf8
unit_is u small = grind arith

-- ---- lanes of two bytes as bytes

abbrev pub doubled : List ℕ → ℕ
doubled [] = zero
doubled (x ∷ xs) = suc (suc (doubled xs))

abbrev pub halves : List ℕ → List ℕ
halves [] = []
halves (x ∷ xs) = x % 256 ∷ x / 256 ∷ halves xs

-- the bytes of lanes that were made of each code unit
pub le_bytes_map : (f : ℕ → ℕ) → ((u : ℕ) → u < 65536 → f u < 65536) → (us : List ℕ) → Each1 (λ u. u < 65536) us →
    digits_l 256 (doubled (map f us)) (number_l 65536 (map f us)) ≡ halves (map f us)
le_bytes_map f below [] small = refl
le_bytes_map f below (u ∷ us) small = grind (arith, below u small.0, le_bytes_map f below us small.1)

-- ---- vectors of eight code units

pub vector_last : (v : List ℕ) → length v ≡ 8 → Each1 (Fits w16) v → sel_l (map (top 15) (zip2 (λ a b. cond (ltb a b) (2 ^ 16 - 1) 0) v (replicate 8 128))) v
    (zip2 (λ a b. (a + b) % 2 ^ 16) (zip2 bit_and v (replicate 8 63)) (replicate 8 128)) ≡ map last_byte v
vector_last = of_eight _ (λ a b c d e f g h sa sb sc sd se sf sg sh t.
    last_is a sa t ∷ last_is b sb t ∷ last_is c sc t ∷ last_is d sd t ∷ last_is e se t ∷ last_is f sf t ∷ last_is g sg t ∷ last_is h sh t ∷ [])

pub vector_front : (v : List ℕ) → length v ≡ 8 → Each1 (Fits w16) v → zip2 (λ a b. (a + b) % 2 ^ 16)
    (zip2 (λ a b. (a + b) % 2 ^ 16) (zip2 (λ a b. (a + b) % 2 ^ 16) (zip2 (λ a b. a / 2 ^ b) v (replicate 8 12)) (replicate 8 224))
    (zip2 bit_and (zip2 (λ a b. a * 2 ^ b % 2 ^ 16) v (replicate 8 2)) (replicate 8 16128)))
    (sel_l (map (top 15) (zip2 (λ a b. cond (ltb a b) (2 ^ 16 - 1) 0) v (replicate 8 2048))) (replicate 8 49152) (replicate 8 32768)) ≡ map front_bytes v
vector_front = of_eight _ (λ a b c d e f g h sa sb sc sd se sf sg sh t.
    front_is a sa t ∷ front_is b sb t ∷ front_is c sc t ∷ front_is d sd t ∷ front_is e se t ∷ front_is f sf t ∷ front_is g sg t ∷ front_is h sh t ∷ [])

-- ---- the four bytes of each code unit

-- the last byte and the front bytes of each code unit, by turns
abbrev by_turns : List ℕ → List ℕ
by_turns [] = []
by_turns (u ∷ us) = last_byte u ∷ front_bytes u ∷ by_turns us

both_bytes : (us : List ℕ) → Each1 (λ u. u < 65536) us → digits_l 256 (doubled (by_turns us)) (number_l 65536 (by_turns us)) ≡ halves (by_turns us)
both_bytes [] small = refl
both_bytes (u ∷ us) small = grind (arith, nat_tests, small.0, both_bytes us small.1)

pub vector_lanes : (v : List ℕ) → length v ≡ 8 → Each1 (Fits w16) v
    → (digits_l 256 16 (number_l 65536 (pick_l 0 (map last_byte v ++ map front_bytes v) (0 ∷ 8 ∷ 1 ∷ 9 ∷ 2 ∷ 10 ∷ 3 ∷ 11 ∷ []))) ≡ lanes (take 4 v))
    × (digits_l 256 16 (number_l 65536 (pick_l 0 (map last_byte v ++ map front_bytes v) (4 ∷ 12 ∷ 5 ∷ 13 ∷ 6 ∷ 14 ∷ 7 ∷ 15 ∷ []))) ≡ lanes (drop 4 v))
vector_lanes = of_eight _ (λ a b c d e f g h sa sb sc sd se sf sg sh. (
  both_bytes (a ∷ b ∷ c ∷ d ∷ []) (sa, (sb, (sc, (sd, tt)))),
  both_bytes (e ∷ f ∷ g ∷ h ∷ []) (se, (sf, (sg, (sh, tt)))),
))

-- ---- the bytes that are written, as bits

-- a byte past 0x7F in the low half of a code unit below 0x80, and one in the high half of a code unit below 0x800
abbrev pub marks : ℕ → ℕ
marks u = (cond (top 15 (cond (ltb u 128) (2 ^ 16 - 1) 0)) 255 0 + cond (top 15 (cond (ltb u 2048) (2 ^ 16 - 1) 0)) 65280 0) % 2 ^ 16

mark : (u : ℕ) → (leb 128 (marks u % 256) ≡ ltb u 128) × (leb 128 (marks u / 256) ≡ ltb u 2048)
mark u = (grind arith, grind arith)

marks_are : (us : List ℕ) → map (leb 128) (halves (map marks us)) ≡ flags us
marks_are [] = refl
marks_are (u ∷ us) = λ t. (mark u).0 t ∷ (mark u).1 t ∷ marks_are us t

abbrev pub vector_bits : List ℕ → ℕ
vector_bits v =
    mask_from 128 16 (digits_l 256 16 (number_l 65536 (zip2 (λ a b. (a + b) % 2 ^ 16)
    (sel_l (map (top 15) (zip2 (λ a b. cond (ltb a b) (2 ^ 16 - 1) 0) v (replicate 8 128))) (replicate 8 255) (replicate 8 0))
    (sel_l (map (top 15) (zip2 (λ a b. cond (ltb a b) (2 ^ 16 - 1) 0) v (replicate 8 2048))) (replicate 8 65280) (replicate 8 0)))))

mask_append : (xs ys : List Bool) → mask_l (xs ++ ys) ≡ mask_l xs + 2 ^ length xs * mask_l ys
mask_append [] ys = omega arith
mask_append (x ∷ xs) ys = grind (arith, nat_tests, mask_append xs ys, mul_assoc)

pub patterns_are : (v : List ℕ) → length v ≡ 8 → Each1 (Fits w16) v
    → (pattern (take 4 v) ≡ vector_bits v % 256) × (pattern (drop 4 v) ≡ vector_bits v / 256) × (vector_bits v / 256 < 256)
unfolding pattern
patterns_are = of_eight _ (λ a b c d e f g h sa sb sc sd se sf sg sh.
    let all = a ∷ b ∷ c ∷ d ∷ e ∷ f ∷ g ∷ h ∷ [] in
    let whole : vector_bits all ≡ mask_l (flags (take 4 all)) + 256 * mask_l (flags (drop 4 all)) =
    ap (mask_from 128 16) (le_bytes_map marks (λ u _. mod-lt _ (zero-lt-suc 65535)) all (sa, (sb, (sc, (sd, (se, (sf, (sg, (sh, tt)))))))))
    ∙ mask_from-is 128 16 (halves (map marks all)) (omega arith) refl ∙ ap mask_l (marks_are all) ∙ mask_append (flags (take 4 all)) (flags (drop 4 all)) in
    let front : mask_l (flags (take 4 all)) < 256 = mask_l-lt (flags (take 4 all)) in
    let back : mask_l (flags (drop 4 all)) < 256 = mask_l-lt (flags (drop 4 all)) in
    (omega (arith, whole, front), omega (arith, whole, front), omega (arith, whole, front, back)))

-- ---- the table

pub rows_are : WRITTEN ≡ map row (range_with_len 0 256)
unfolding row places
rows_are = refl

pub each_below : (n : ℕ) (js : List ℕ) → all_below n js ≡ true → Each1 (λ j. j < n) js
each_below n [] e = tt
each_below n (j ∷ js) e = grind (arith, nat_tests, each_below n js)

pub rows_fit : (r : ℕ) → r < 256 → Each1 (λ j. j < 16) (row r) × (length (places 0 4 r) ≤ 12) × (get_or COUNTS r 0 ≡ length (places 0 4 r))
unfolding row places
rows_fit r h =
    let fits = λ (n : ℕ). all_below 16 (row n) && (leb (length (places 0 4 n)) 12 && eqb (get_or COUNTS n 0) (length (places 0 4 n))) in
    let p = and_parts _ _ (agree_below_at fits (λ _. true) 256 r refl h) in
    let q = and_parts _ _ p.1 in
    (each_below 16 (row r) p.0, leb-true _ _ q.0, eqb-true _ _ q.1)

-- a shuffle of sixteen bytes by places within them
pub shuffled : (xs : List ℕ) (i : ℕ) (js : List ℕ) → i + length js ≤ 16 → Each1 (λ j. j < 16) js → swz_l w8 16 xs i js ≡ map (λ j. get_or xs j 0) js
shuffled xs i [] room s = refl
shuffled xs i (j ∷ js) room s = grind (arith, nat_tests, s.0, shuffled xs (suc i) js)

-- such places, with others after them
module _ (js : List ℕ) (within : Each1 (λ j. j < 16) (take 16 (js ++ replicate 16 0))) where
  row_long : length (take 16 (js ++ replicate 16 0)) ≡ 16
  row_long = length-take-le 16 (js ++ replicate 16 0) (omega (arith, length-append js (replicate 16 0)))

  pub row_ok : SwzOk w8 16 16 0 (take 16 (js ++ replicate 16 0))
  row_ok = SwzOk-from_below w8 16 1 16 0 (take 16 (js ++ replicate 16 0)) refl (omega (arith, row_long)) within

  pub row_written : (xs : List ℕ) → length js ≤ 16 → take (length js) (swz_l w8 16 xs 0 (take 16 (js ++ replicate 16 0))) ≡ map (λ j. get_or xs j 0) js
  row_written xs few =
      let row = take 16 (js ++ replicate 16 0) in
      let begins : take (length js) row ≡ js = take-take (length js) 16 (js ++ replicate 16 0) few ∙ take-append_seam js (replicate 16 0) in
      grind (arith, shuffled xs 0 row, row_long, within, take-map (λ j. get_or xs j 0) (length js) row)

-- ---- the bytes that are written are the text

-- `f` reads the lanes of these code units from a place on
pub text_written : (f : ℕ → ℕ) (base : ℕ) (us : List ℕ) → Each1 (λ u. u < 65536) us → ((k : ℕ) → f (base + k) ≡ get_or (lanes us) k 0) →
    map f (places base (length us) (pattern us)) ≡ utf8_bytes us
unfolding places pattern
text_written f base [] small reads = refl
text_written f base (u ∷ us) small reads =
    let rest = text_written f (base + 4) us small.1 (λ k.
    let at : base + 4 + k ≡ base + suc (suc (suc (suc k))) = omega arith in
    rw at (reads (suc (suc (suc (suc k)))))) in
    grind (arith, map-append, unit_is u small.0, reads 0, reads 2, reads 3)

-- both halves of eight code units
pub text_of_eight : (v : List ℕ) → length v ≡ 8 → Each1 (Fits w16) v → map (λ k. get_or (lanes (take 4 v)) k 0) (places 0 4 (pattern (take 4 v)))
    ++ map (λ k. get_or (lanes (drop 4 v)) k 0) (places 0 4 (pattern (drop 4 v))) ≡ utf8_bytes v
text_of_eight = of_eight _ (λ a b c d e f g h sa sb sc sd se sf sg sh.
    let front = a ∷ b ∷ c ∷ d ∷ [] in
    let back = e ∷ f ∷ g ∷ h ∷ [] in
    ap₂ (λ (x y : List ℕ). x ++ y)
    (text_written (λ k. get_or (lanes front) k 0) 0 front (sa, (sb, (sc, (sd, tt)))) (λ k. rw (zero-add k) refl))
    (text_written (λ k. get_or (lanes back) k 0) 0 back (se, (sf, (sg, (sh, tt)))) (λ k. rw (zero-add k) refl))
    ∙ sym (flat_map-append encode_utf8 front back))

-- ---- the first code units, with U+0000 for the others

abbrev pub vector_first : ℕ → List ℕ → List ℕ
vector_first n v =
    sel_l (map (top 15) (zip2 (λ a b. cond (ltb a b) (2 ^ 16 - 1) 0) (0 ∷ 1 ∷ 2 ∷ 3 ∷ 4 ∷ 5 ∷ 6 ∷ 7 ∷ []) (replicate 8 n))) v (replicate 8 0)

pub first_are : (n : ℕ) → n ≤ 8 → (v : List ℕ) → length v ≡ 8 → Each1 (Fits w16) v → vector_first n v ≡ take n v ++ replicate (8 - n) 0
first_are n most =
    of_eight (λ v. vector_first n v ≡ take n v ++ replicate (8 - n) 0) (λ a b c d e f g h sa sb sc sd se sf sg sh.
    let v = a ∷ b ∷ c ∷ d ∷ e ∷ f ∷ g ∷ h ∷ [] in
    let is = λ (k : ℕ). vector_first k v ≡ take k v ++ replicate (8 - k) 0 in
    subst is (get_or-range_with_len 0 9 n 0 (omega arith) ∙ zero-add n)
    (Each1-get_or is (range_with_len 0 9) n 0 (omega arith) (refl, (refl, (refl, (refl, (refl, (refl, (refl, (refl, (refl, tt)))))))))))

zeros_text : (n : ℕ) → utf8_bytes (replicate n 0) ≡ replicate n 0
unfolding encode_utf8
zeros_text zero = refl
zeros_text (suc n) = ap (λ (l : List ℕ). 0 ∷ l) (zeros_text n)

-- the text of the first code units is the stored text without its last bytes
pub first_stored : (at end n : ℕ) (old new us : List ℕ) → at ≤ length old → end ≤ length new → take end new ≡ take at old ++ utf8_bytes (us ++ replicate n 0)
    → (n ≤ end) × (take (end - n) new ≡ take at old ++ utf8_bytes us)
first_stored at end n old new us within room e =
    let text : take end new ≡ (take at old ++ utf8_bytes us) ++ replicate n 0 =
    grind (arith, flat_map-append encode_utf8 us (replicate n 0), zeros_text n, append_assoc) in
    let seam = take-append_seam (take at old ++ utf8_bytes us) (replicate n 0) in
    grind (arith, nat_tests, ap length text, length-take-le, length-append, length-replicate, take-take (end - n) end new)

-- ---- the two bytes of code units below 0x800

short_is : (u : ℕ) → u < 65536
    → cond (top 15 (cond (ltb u 128) (2 ^ 16 - 1) 0)) u (((bit_and (u / 2 ^ 6) 31 + 192) % 2 ^ 16 + (bit_and u 63 + 128) % 2 ^ 16 * 2 ^ 8 % 2 ^ 16) % 2 ^ 16)
    ≡ short_bytes u
short_is u small = grind (arith, common_steps, and_mask)

pub vector_short_lanes : (v : List ℕ) → length v ≡ 8 → Each1 (Fits w16) v → digits_l 256 16 (number_l 65536
    (sel_l (map (top 15) (zip2 (λ a b. cond (ltb a b) (2 ^ 16 - 1) 0) v (replicate 8 128))) v
    (zip2 (λ a b. (a + b) % 2 ^ 16) (zip2 (λ a b. (a + b) % 2 ^ 16) (zip2 bit_and (zip2 (λ a b. a / 2 ^ b) v (replicate 8 6)) (replicate 8 31))
    (replicate 8 192))
    (zip2 (λ a b. a * 2 ^ b % 2 ^ 16) (zip2 (λ a b. (a + b) % 2 ^ 16) (zip2 bit_and v (replicate 8 63)) (replicate 8 128)) (replicate 8 8)))))
    ≡ short_lanes v
vector_short_lanes = of_eight _ (λ a b c d e f g h sa sb sc sd se sf sg sh.
    (λ t. digits_l 256 16 (number_l 65536 (short_is a sa t ∷ short_is b sb t ∷ short_is c sc t ∷ short_is d sd t
    ∷ short_is e se t ∷ short_is f sf t ∷ short_is g sg t ∷ short_is h sh t ∷ [])))
    ∙ le_bytes_map short_bytes (λ u small. grind arith) (a ∷ b ∷ c ∷ d ∷ e ∷ f ∷ g ∷ h ∷ []) (sa, (sb, (sc, (sd, (se, (sf, (sg, (sh, tt)))))))))

-- ---- which of them have one byte

pub short_bits_are : (v : List ℕ) → length v ≡ 8
    → (short_pattern v ≡ mask_l (map (top 15) (zip2 (λ a b. cond (ltb a b) (2 ^ 16 - 1) 0) v (replicate 8 128))) % 2 ^ 64) × (short_pattern v < 256)
unfolding short_pattern
short_bits_are v long = (sym (bitmask_splat w16 ltb v 8 128 long (omega arith)), grind (arith, nat_tests, length-map, mask_l-lt))

-- ---- their table

pub short_rows_are : SHORT_WRITTEN ≡ map short_row (range_with_len 0 256)
unfolding short_row short_places
short_rows_are = refl

pub short_rows_fit : (r : ℕ) → r < 256 → Each1 (λ j. j < 16) (short_row r) × (length (short_places 0 8 r) + count_ones r ≡ 16)
unfolding short_row short_places count_ones
short_rows_fit r h =
    let fit = agree_below_at (λ n. all_below 16 (short_row n) && eqb (length (short_places 0 8 n) + count_ones n) 16) (λ _. true) 256 r refl h in
    let p = and_parts _ _ fit in
    (each_below 16 (short_row r) p.0, eqb-true _ _ p.1)

-- ---- their bytes that are written are the text

short_unit : (u a b : ℕ) → u < 2048 → a ≡ short_bytes u % 256 → b ≡ short_bytes u / 256 → cond (ltb u 128) (a ∷ []) (a ∷ b ∷ []) ≡ encode_utf8 u
unfolding encode_utf8
short_unit u a b small p q = grind arith

short_text : (f : ℕ → ℕ) (base : ℕ) (us : List ℕ) → All (λ u. u < 2048) us → ((k : ℕ) → f (base + k) ≡ get_or (short_lanes us) k 0) →
    map f (short_places base (length us) (short_pattern us)) ≡ utf8_bytes us
unfolding short_places short_pattern
short_text f base [] small reads = refl
short_text f base (u ∷ us) small reads =
    let rest = short_text f (base + 2) us (λ k d' h. small (suc k) d' (omega arith)) (λ k.
    let at : base + 2 + k ≡ base + suc (suc k) = omega arith in
    rw at (reads (suc (suc k)))) in
    grind (arith, map-append, short_unit u (f base) (f (base + 1)), small 0 0, reads 0, reads 1)

pub short_text_of_eight : (v : List ℕ) → length v ≡ 8 → Each1 (Fits w16) v → AreShort v →
    map (λ k. get_or (short_lanes v) k 0) (short_places 0 8 (short_pattern v)) ≡ utf8_bytes v
short_text_of_eight = of_eight _ (λ a b c d e f g h sa sb sc sd se sf sg sh short.
    short_text (λ k. get_or (short_lanes (a ∷ b ∷ c ∷ d ∷ e ∷ f ∷ g ∷ h ∷ [])) k 0) 0 (a ∷ b ∷ c ∷ d ∷ e ∷ f ∷ g ∷ h ∷ []) short (λ k. rw (zero-add k) refl))

-- ---- a mask with all bits set

pub units_below : (n : ℕ) (xs : List ℕ) → length xs ≡ 8
    → eqb (mask_l (map (top 15) (zip2 (λ a b. cond (ltb a b) (2 ^ 16 - 1) 0) xs (replicate 8 n))) % 2 ^ 64) 255 ≡ true → All (λ x. x < n) xs
units_below n xs long whole =
    grind (arith, common_steps, nat_tests, bitmask_splat w16 ltb xs 8 n, bit_mask_l (map (λ x. ltb x n) xs), bit_at_ones 8, get_or-map)

pub units_all_below : (n : ℕ) (xs : List ℕ) → length xs ≡ 8 → All (λ x. x < n) xs
    → eqb (mask_l (map (top 15) (zip2 (λ a b. cond (ltb a b) (2 ^ 16 - 1) 0) xs (replicate 8 n))) % 2 ^ 64) 255 ≡ true
units_all_below n xs long all =
    grind (arith, bitmask_splat w16 ltb xs 8 n long, set xs all, ap (λ k. mask_l (replicate k true)) long)
  where
    set : (ys : List ℕ) → All (λ y. y < n) ys → map (λ x. ltb x n) ys ≡ replicate (length ys) true
    set [] h = refl
    set (y ∷ ys) h = grind (arith, nat_tests, h 0 0, set ys (λ k d l. h (suc k) d (omega (arith, l))))

pub ruleset lane_steps = (ap₂, digits_l, number_l, pick_l, vector_lanes)

pub ruleset first_steps = (nat_tests, common_steps, first_stored, free-after)
