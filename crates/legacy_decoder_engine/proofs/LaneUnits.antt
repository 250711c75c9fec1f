-- The units of eight codes, lane by lane, are the scalars of their forms.
use Rattle.std.proofs.Common.{◌≡◌, ◌≢◌, ◌∙◌, ℕ, zero, suc, ◌+◌, ◌-◌, ◌*◌, ◌%◌, ◌^◌, ◌<◌, ◌≤◌, cond, ltb, leb, eqb, All, List, [], ◌∷◌, ◌++◌, length, get_or}
use Rattle.std.proofs.Common.{map, take, drop, replicate, bit_and, bit_or, refl, sym, ap, arith, w8, w16, Fits, append-nil, length-append}
use Rattle.std.proofs.lemmas.{Bool.{cases_lt, Decides.nat_tests}, Nat.and_mask, Grind.flat_map-append, List.Sums.{sum_by-append, count_by-le-length}}
use Rattle.std.proofs.lemmas.List.{take_rest, take-take, take-append-drop, take-append-le, take_more, length-take, length-take-le, length-drop, length-map}
use Rattle.std.proofs.lemmas.List.{get_or-take, get_or-drop, get_or-map, Folds.sum_by-replicate, Elements.All-from_get_or}
use Rattle.std.proofs.lemmas.Simd.{tops_compared, zip2_splat, get_or-sel_l, bitmask_splat, bit_mask_l, ones-mask_l, length-chunk, chunk-drop}
use Rattle.std.proofs.{lemmas.Simd.{get_or-chunk, get_or-put_chunk_below, get_or-put_chunk_at}, Math.Seq.{take-append_seam, take-add}}
use Rattle.std.specs.{Char.IsScalar, Int.bit_at, Int.RustNames.count_ones}
use Rattle.legacy_text.specs.{declared.destination.Destination.Ghosts, EncodingForm.{EncodingForm, all_code_units, total_unit_count}}
use Rattle.{legacy_base.specs.{Grammar.Grammar, States.new_state}, legacy_decoder_engine.proofs.{LanePlaces.mask_if, JoinedReads.reads_written}}
use Rattle.legacy_decoder_engine.proofs.WrittenReads.{yields_none, yields_more, writes_then, all_short}
use Rattle.legacy_decoder_engine.specs.LaneCodes.{ascii_count, unit_at, ArePairs, ArePlaces, AreLanes, IsLane, IsForm, AreForms, AreWritten}
use Rattle.legacy_decoder_engine.specs.{ReadAhead.{HasAscii, Yields, ReadsAhead}, PickedForms.{form_of, forms_of}}
use lib.Lanes.{Each1, zip2, sel_l, top, mask_l, chunk, put_chunk, number_l, digits_l}

module _ (pointer : ℕ → ℕ) (last : ℕ) where
  abbrev pub vector_kept : ℕ → List ℕ → List ℕ → List ℕ
  vector_kept n v ps =
      let firsts = zip2 bit_and v (replicate n 255) in
      sel_l (map (top 15) (zip2 bit_or (zip2 (λ a b. mask_if (ltb a b)) firsts (replicate n 128)) (zip2 (λ a b. mask_if (leb a b)) ps (replicate n last))))
      firsts (replicate n 0)

  -- a vector's minimum is that of its lanes
  abbrev pub vector_place : ℕ → List ℕ → List ℕ
  vector_place n ps = sel_l (map (top 15) (zip2 (λ a b. mask_if (ltb a b)) ps (replicate n last))) ps (replicate n last)

  -- places are compared with `last`, so those from the limit on are not told apart
  pub limited : (limit : ℕ) → last < limit → (n : ℕ) (v ps : List ℕ) → length v ≡ n → length ps ≡ n → Each1 (Fits w16) v → ArePlaces limit pointer v ps
      → AreLanes pointer last n v (vector_kept n v ps) (vector_place n ps)
  limited limit below (suc n) (c ∷ v) (p ∷ ps) e f fits are zero h = grind (arith, nat_tests, and_mask c 8, ap (λ l. get_or l 0 0) are, fits.0.fits)
  limited limit below (suc n) (c ∷ v) (p ∷ ps) e f fits are (suc k) h =
      limited limit below n v ps (omega arith) (omega arith) fits.1 (ap (drop 1) are) k (omega arith)
  limited limit below n v ps e f fits are k h = absurd (omega arith)

pub chosen_at : (ks es : List ℕ) → length ks ≡ 8 → length es ≡ 8 → (k : ℕ) → k < 8
    → get_or (sel_l (map (top 15) (zip2 (λ a b. mask_if (ltb a b)) ks (replicate 8 128))) ks es) k 0 ≡ unit_at (get_or ks k 0) (get_or es k 0)
chosen_at ks es m n k h = grind (arith, nat_tests, tops_compared w16 ltb ks (replicate 8 128) ∙ zip2_splat ltb ks 8 128 m, get_or-sel_l, get_or-map, length-map)

module _ {g : Grammar} (ascii : HasAscii g) (entries : List ℕ) {pointer : ℕ → ℕ} (pairs : ArePairs g entries pointer) where
  pub is_form : {code kept place entry unit : ℕ} → unit < 65536 → IsLane pointer code kept place → place < length entries
      → (entry ≢ 0 → entry ≡ get_or entries place 0) → unit ≡ unit_at kept entry → unit ≢ 0 → IsForm g code kept unit
  is_form {code} narrow lane within looked_up is some = grind (arith, nat_tests, ascii (code % 256), pairs code lane.small)

module _ (g : Grammar) (pointer : ℕ → ℕ) (last : ℕ) (codes kept places us : List ℕ) (long : length us ≡ 8) (lanes : AreLanes pointer last 8 codes kept places)
    (forms : AreForms g pointer kept places us) where
  -- units that are 0 or scalars are scalars
  pub known_scalars : All IsScalar us
  known_scalars = All-from_get_or IsScalar us 0 (λ k h. grind (arith, nat_tests, forms (get_or codes k 0) k, lanes k))

  -- the first units are the scalars of the first forms
  pub first_forms : (n : ℕ) → n ≤ 8 → n ≤ length codes → n ≤ length kept → ((k : ℕ) → k < n → get_or us k 0 ≢ 0)
      → Yields g (forms_of (take n codes)) (take n us) × (length (forms_of (take n codes)) + ascii_count (take n kept) ≡ 2 * n)
  first_forms zero p q r known = (yields_none g, refl)
  first_forms (suc n) p q r known =
      let rest = first_forms n (omega arith) (omega arith) (omega arith) (λ k h. known k (omega arith)) in
      let form = forms (get_or codes n 0) n (omega arith) (lanes n (omega arith)).0 (known n (omega arith)) in
      let next : suc n ≡ n + 1 = omega arith in
      let parts = flat_map-append form_of (take n codes) (get_or codes n 0 ∷ []) in
      let count = sum_by-append (λ k. cond (ltb k 128) 1 0) (take n kept) (get_or kept n 0 ∷ []) in
      rw (next, take_more codes n 0 (omega arith), take_more us n 0 (omega arith), take_more kept n 0 (omega arith), parts, append-nil) (
        yields_more g _ _ _ _ rest.0 form.yields,
        omega (arith, length-append (forms_of (take n codes)) (form_of (get_or codes n 0)), count, form.counted, rest.1),
      )

-- the forms of fewer codes are also the front of the input
pub front_forms : (n count bytes : ℕ) (codes src : List ℕ) → n ≤ count → forms_of (take count codes) ≡ take bytes src
    → take (length (forms_of (take n codes))) src ≡ forms_of (take n codes)
front_forms n count bytes codes src most front =
    let xs = forms_of (take n codes) in
    let ys = forms_of (drop n (take count codes)) in
    let parts = sym (flat_map-append form_of (take n codes) (drop n (take count codes))) in
    let whole = take-append-drop n (take count codes) in
    let fewer = take-take n count codes most in
    grind (arith, parts, whole, fewer, take-take (length xs) bytes src, length-append xs ys, length-take bytes src, take-append_seam xs ys)

-- the forms of the bytes so far, and those of the next bytes
pub picked_more : (count next at bytes : ℕ) (codes new src part : List ℕ) → forms_of (take count codes) ≡ take at src
    → forms_of (take next new) ≡ forms_of (take count codes) ++ part → part ≡ take bytes (drop at src) → forms_of (take next new) ≡ take (at + bytes) src
picked_more count next at bytes codes new src part before more here = grind (arith, nat_tests, take-add)

pub ascii_lanes : (ks : List ℕ) → length ks ≡ 8
    → (count_ones (mask_l (map (top 15) (zip2 (λ a b. mask_if (ltb a b)) ks (replicate 8 128))) % 2 ^ 64) ≡ ascii_count ks)
    × (ascii_count ks ≤ 8)
ascii_lanes ks long = grind (arith, bitmask_splat w16 ltb ks 8 128 long, ones-mask_l (λ k. ltb k 128) ks, count_by-le-length)

-- the first ones, with zeros after them
pub ascii_first : (n : ℕ) (ks : List ℕ) → n ≤ length ks
    → (ascii_count (take n ks ++ replicate (8 - n) 0) ≡ ascii_count (take n ks) + (8 - n))
    × (ascii_count (take n ks) ≤ n)
ascii_first n ks within = grind (arith, sum_by-append, sum_by-replicate, count_by-le-length, length-take-le)

-- more of what is kept
pub ascii_more : (at n next : ℕ) (ks : List ℕ) → next ≡ at + n → at + 8 ≤ length ks → n ≤ 8
    → ascii_count (take next ks) ≡ ascii_count (take at ks) + ascii_count (take n (chunk at 8 ks))
ascii_more at n next ks e room most =
    let split = sum_by-append (λ k. cond (ltb k 128) 1 0) (take at ks) (take n (drop at ks)) in
    grind (arith, split, take-add at n ks, chunk-drop at 8 ks, take-append-le n (chunk at 8 ks) (drop (at + 8) ks), length-chunk at 8 ks room)

pub unit_known : (us : List ℕ) → length us ≡ 8 → (k : ℕ) → k < 8
    → bit_at (mask_l (map (top 15) (zip2 (λ a b. mask_if (eqb a b)) us (replicate 8 0))) % 2 ^ 64) k ≡ 0 → get_or us k 0 ≢ 0
unit_known us long k h unset none = grind (arith, bit_mask_l, get_or-map, rw (bitmask_splat w16 eqb us 8 0 long (omega arith)) at unset)

-- the lanes of eight more codes, which are as they were
pub next_lanes : (pointer : ℕ → ℕ) (last at : ℕ) (codes ks ps found places : List ℕ) → length found ≡ 8 → length places ≡ 8
    → at + 8 ≤ length ks → at + 8 ≤ length ps → ((k : ℕ) → at ≤ k → get_or ks k 0 ≡ get_or codes k 0) → AreLanes pointer last at codes ks ps
    → AreLanes pointer last 8 (chunk at 8 ks) found places → AreLanes pointer last (at + 8) codes (put_chunk at ks found) (put_chunk at ps places)
next_lanes pointer last at codes ks ps found places long long' room room' same before next k h =
    let j : ℕ = k - at in
    let loaded = get_or-chunk at 8 ks j 0 in
    let kept = get_or-put_chunk_at at ks found j 0 in
    let placed = get_or-put_chunk_at at ps places j 0 in
    grind (arith, cases_lt k at, get_or-put_chunk_below, loaded, kept, placed, before k, next j, same k)

-- the first of eight units, which take 24 code units at most
pub few_units : (form : EncodingForm) (few : ℕ) (us : List ℕ) → length us ≡ 8 → ((k : ℕ) → k < 8 → get_or us k 0 < 65536) → few ≤ 8
    → total_unit_count form (take few us) ≤ 24
few_units form few us long small most = grind (arith, length-take-le, all_short, get_or-take)

-- eight lanes from a place on, of slices that begin there
module _ (g : Grammar) (pointer : ℕ → ℕ) (last at most : ℕ) (codes kept places us : List ℕ) (below : at + 8 ≤ most) (long : length us ≡ 8)
    (lanes : AreLanes pointer last most codes kept places)
    (forms : AreForms g pointer (take (length kept - at) (drop at kept)) (take (length places - at) (drop at places)) us) where
  forms_there : AreForms g pointer (drop at kept) (drop at places) us
  forms_there = rw (take_rest kept at, take_rest places at) at forms

  lanes_there : AreLanes pointer last 8 (drop at codes) (drop at kept) (drop at places)
  lanes_there k h = rw (get_or-drop at codes k 0, get_or-drop at kept k 0, get_or-drop at places k 0) (lanes (at + k) (omega arith))

  pub scalars_there : All IsScalar us
  scalars_there = known_scalars g pointer last (drop at codes) (drop at kept) (drop at places) us long lanes_there forms_there

  -- the first of the units are written, after those before them
  pub next_written : {D : Type 0} (T : Ghosts D) (few : ℕ) {x y z : D} → few ≤ 8 → most ≤ length codes → most ≤ length kept
      → ((k : ℕ) → k < few → get_or us k 0 ≢ 0)
      → AreWritten T g codes kept at x y → T.contents z ≡ T.contents y ++ all_code_units T.form (take few us)
      → T.room z + total_unit_count T.form (take few us) ≡ T.room y → T.loan z ≡ T.loan y → AreWritten T g codes kept (at + few) x z
  next_written T few some room room' known before contents room_is loan =
      let next = first_forms g pointer last (drop at codes) (drop at kept) (drop at places) us long lanes_there forms_there few some
      (omega (arith, length-drop at codes)) (omega (arith, length-drop at kept)) known in
      grind (arith, take-add, flat_map-append, writes_then, sum_by-append, length-append)

-- equal fronts have equal shorter fronts
pub shorter_front : (n m : ℕ) (xs ys : List ℕ) → n ≤ m → take m xs ≡ take m ys → take n xs ≡ take n ys
shorter_front n m xs ys le e = sym (take-take n m xs le) ∙ ap (take n) e ∙ take-take n m ys le

-- ---- eight pairs whose bytes are all past ASCII

-- the bits of the ASCII bytes among sixteen
pub byte_past : (bs : List ℕ) → length bs ≡ 16 → (k : ℕ) → k < 16
    → bit_at (mask_l (map (top 7) (zip2 (λ a b. cond (ltb a b) (2 ^ 8 - 1) 0) bs (replicate 16 128))) % 2 ^ 64) k ≡ 0 → 128 ≤ get_or bs k 0
byte_past bs long k h unset = grind (arith, nat_tests, bit_mask_l, get_or-map, rw (bitmask_splat w8 ltb bs 16 128 long (omega arith)) at unset)

-- the forms of the codes of pairs are their bytes
pub pair_forms : (n m : ℕ) (bs : List ℕ) → Each1 (Fits w8) bs → n ≤ m → 2 * n ≤ length bs → ((k : ℕ) → k < 2 * n → 128 ≤ get_or bs k 0)
    → forms_of (take n (digits_l 65536 m (number_l 256 bs))) ≡ take (2 * n) bs
pair_forms zero m bs fits le long past = refl
pair_forms (suc n) (suc m) (a ∷ b ∷ bs) fits le long past =
    let two : 2 * suc n ≡ suc (suc (2 * n)) = omega arith in
    let rest = pair_forms n m bs fits.1.1 (omega arith) (omega arith) (λ k h. past (suc (suc k)) (omega arith)) in
    rw two (grind (arith, nat_tests, rest, fits.0.fits, fits.1.0.fits, past 0, past 1))
pair_forms (suc n) m bs fits le long past = absurd (omega arith)

-- the first n of eight pairs are read
pub reads_pairs : {D : Type 0} (T : Ghosts D) (g : Grammar) (src us : List ℕ) {old new : D} (n : ℕ) → 16 ≤ length src → length us ≡ 8 → n ≤ 8
    → ((k : ℕ) → k < 8 → get_or us k 0 < 65536) → Yields g (take (2 * n) (chunk 0 16 src)) (take n us)
    → T.contents new ≡ T.contents old ++ all_code_units T.form (take n us)
    → T.room new + total_unit_count T.form (take n us) ≡ T.room old → T.loan new ≡ T.loan old → 35 ≤ T.room old
    → ReadsAhead T (new_state g) src (2 * n) old new
reads_pairs T g src us n room long most small yields contents room_is loan enough =
    let few = few_units T.form n us long small most in
    let is = rw (take-take (2 * n) 16 src (omega arith)) at yields in
    reads_written (omega arith) (record { scalars = take n us; yields = is; written = contents; room = room_is; loan = loan }) (omega arith) (omega arith)
