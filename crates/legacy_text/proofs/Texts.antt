-- The scalars of texts, one by one from the front, and the places between them.
use Rattle.std.proofs.Common.{◌≡◌, ◌∙◌, ℕ, suc, ◌+◌, ◌≤◌, ◌<◌, List, [], ◌∷◌, ◌++◌, length, take, drop, get_or, refl, sym, ◌*◌, ◌%◌, ap, subst, arith}
use Rattle.std.proofs.{Common.{length-append, length-drop, Some, None, Option, true, false, ◌⊎◌, ◌&&◌, map, slice_get, IsAscii}, lemmas.Bool.Decides.nat_tests}
use Rattle.std.proofs.{lemmas.List.{drop-drop, take-append-drop, length-take-le, get_or-take, get_or-drop, take_rest}, Math.Seq.drop-append_seam}
use Rattle.std.proofs.{Math.Seq.take-append_seam, lemmas.Str.{IsUtf8-from_is_utf8, is_utf8-from_IsUtf8, encodes-chars, chars_past_char, IsUtf8-past_char}}
use Rattle.std.proofs.lemmas.Str.{drop_past_char, length-encode, utf16_chars-nil, encodes-append, scalars-chars, chars-encodes, IsCharBoundary-at_seam}
use Rattle.std.proofs.lemmas.Str.{chars-append, chars-IsAscii, IsUtf8-from_ascii, IsUtf8-drop, IsCharBoundary-from_take, IsCharBoundary-from_drop, encode_ascii}
use Rattle.std.proofs.str.Utf16.{IsPair, lone_unit_char_low, lone_unit_char_high, lone_unit_char_surrogate, utf16_chars-drop_lone, utf16_chars-drop_pair}
use Rattle.std.{proofs.{str.Utf16.utf16_chars-drop_all, lemmas.{Grind.common_steps, Option.{slice_get-get_or, slice_get_cases}}}, specs.Str.{chars, is_utf8}}
use Rattle.std.specs.{Str.{IsUtf8, IsCharBoundary}, Char.Utf16.{lone_unit_char, surrogate_pair_char, is_high_surrogate, is_low_surrogate}, Option.unwrap_or}
use lib.{ListN.get_or-eq_default, Utf8.{encode, encodes, scalars}}
use Rattle.legacy_text.specs.{EncodingForm.{EncodingForm, Utf8, Utf16, unit_count, all_code_units, total_unit_count}, NextScalars.StandsAt}
use Rattle.legacy_text.specs.{UnitCodes.{IsNoSurrogate, WritesCodes}, Texts.{unit_scalars, IsUnitBoundary}, ShortScalars.ReadsScalar, UnitTurns.TakesUnits}
use Rattle.legacy_text.proofs.CodeUnits.{some_units, encode_2, encode_3, encode_4, utf16_1, utf16_2, total_unit_count-append, own_units}

pub first_cons : {A : Type 0} (xs : List A) (x : A) → Some x ≡ slice_get xs 0 → xs ≡ x ∷ drop 1 xs
first_cons xs x h = grind arith

-- ---- UTF-8

pub utf8_stands : (text : List ℕ) (place c : ℕ) → is_utf8 (drop place text) ≡ true → Some c ≡ slice_get (chars (drop place text)) 0 → StandsAt text place c
utf8_stands text place c u e = record {
  rest = encodes (drop 1 (chars (drop place text)));
  is = sym (encodes-chars (drop place text) (IsUtf8-from_is_utf8 (drop place text) u)) ∙ ap encodes (first_cons (chars (drop place text)) c e);
}

-- what the bytes say of the scalar c with which they begin: its number of bytes by the first, and what it is made of
pub record ByFirst (c : ℕ) (bytes : List ℕ) : Type 0 where
  pub one : get_or bytes 0 0 < 0x80 → (unit_count Utf8 c ≡ 1) × (get_or bytes 0 0 ≡ c)
  pub two : 0x80 ≤ get_or bytes 0 0 → get_or bytes 0 0 < 0xE0 →
      (unit_count Utf8 c ≡ 2) × (get_or bytes 0 0 % 0x20 * 0x40 + get_or bytes 1 0 % 0x40 ≡ c) × (get_or bytes 0 0 * 0x40 + get_or bytes 1 0 ≡ c + 0x3080)
  pub three : 0xE0 ≤ get_or bytes 0 0 → get_or bytes 0 0 < 0xF0 →
      (unit_count Utf8 c ≡ 3) × (get_or bytes 0 0 % 0x10 * 0x1000 + get_or bytes 1 0 % 0x40 * 0x40 + get_or bytes 2 0 % 0x40 ≡ c)
  pub four : 0xF0 ≤ get_or bytes 0 0 → unit_count Utf8 c ≡ 4
  pub start : 0x80 ≤ get_or bytes 0 0 → 0xC0 ≤ get_or bytes 0 0
  pub long : length bytes ≡ unit_count Utf8 c + length (drop (unit_count Utf8 c) bytes)

pub by_first : (c : ℕ) (rest : List ℕ) → (encode c ++ rest ≡ encode c ++ rest) × ByFirst c (encode c ++ rest)
by_first c rest = grind (arith, nat_tests, encode_ascii, encode_2, encode_3, encode_4)

-- ---- UTF-16

abbrev pub replaced : Option ℕ → ℕ
replaced o = unwrap_or o 0xFFFD

pub scalars_lone : (units : List ℕ) (at : ℕ) → at < length units → (IsPair (get_or units at 0) (get_or units (at + 1) 0) → ⊥) →
    unit_scalars (drop at units) ≡ unwrap_or (lone_unit_char (get_or units at 0)) 0xFFFD ∷ unit_scalars (drop (at + 1) units)
scalars_lone units at h n = ap (map replaced) (utf16_chars-drop_lone units at h n)

pub scalars_pair : (units : List ℕ) (at : ℕ) → at + 1 < length units → IsPair (get_or units at 0) (get_or units (at + 1) 0) →
    unit_scalars (drop at units) ≡ surrogate_pair_char (get_or units at 0) (get_or units (at + 1) 0) ∷ unit_scalars (drop (at + 2) units)
scalars_pair units at h p = ap (map replaced) (utf16_chars-drop_pair units at h p)

pub scalars_end : (units : List ℕ) (at : ℕ) → length units ≤ at → unit_scalars (drop at units) ≡ []
scalars_end units at h = ap (map replaced) (utf16_chars-drop_all units at h)

-- the scalar c is at the place of the units
pub record Utf16Step (list : List ℕ) (place c n : ℕ) : Type 0 where
  pub width : n ≡ unit_count Utf16 c
  pub within : place + n ≤ length list
  pub after : unit_scalars (drop (place + n) list) ≡ drop 1 (unit_scalars (drop place list))
  pub first : get_or (unit_scalars (drop place list)) 0 0 ≡ c

pub pair_or_not : (u v : ℕ) → IsPair u v ⊎ (IsPair u v → ⊥)
pair_or_not u v = grind arith

unpaired_bound : (u : ℕ) → u < 65536 → replaced (lone_unit_char u) < 65536
unpaired_bound u h = grind arith

pub utf16_step : (list : List ℕ) (place c n : ℕ) → ((i : ℕ) → get_or list i 0 < 65536) → place < length list →
    Some c ≡ slice_get (unit_scalars (drop place list)) 0 → (c < 65536 → n ≡ 1) → (65536 ≤ c → n ≡ 2) → Utf16Step list place c n
utf16_step list place c n bound h e short long =
    grind (arith, pair_or_not, get_or-eq_default, scalars_pair, utf16_2, scalars_lone, unpaired_bound, utf16_1)

-- there is a scalar only before the end
pub some_within : (units : List ℕ) (place c : ℕ) → Some c ≡ slice_get (unit_scalars (drop place units)) 0 → place < length units
some_within units place c e = grind (arith, nat_tests, scalars_end)

-- ---- what was taken off the front of a text

pub encodes-code_units : (cs : List ℕ) → encodes cs ≡ all_code_units Utf8 cs
encodes-code_units [] = refl
encodes-code_units (c ∷ cs) = ap (λ l. encode c ++ l) (encodes-code_units cs)

scalars-right : (xs ys : List ℕ) → scalars (xs ++ ys) ≡ true → scalars ys ≡ true
scalars-right [] ys e = e
scalars-right (x ∷ xs) ys e = grind (arith, scalars-right xs ys)

-- the scalars taken off a text end at a place between two of them, and those left are those from the place on
pub record CutAt (text taken left : List ℕ) (place : ℕ) : Type 0 where
  pub left_is : chars (drop place text) ≡ left
  pub boundary : IsCharBoundary text place

-- how many units were passed
pub passed_is : (form : EncodingForm) (all taken left : List ℕ) (place : ℕ) → all ≡ taken ++ left →
    place + length (all_code_units form left) ≡ 0 + length (all_code_units form all) → place ≡ length (all_code_units form taken)
passed_is form all taken left place e p = omega (arith, total_unit_count-append form taken left, ap (λ l. length (all_code_units form l)) e)

-- the scalars taken off units end at a place between two of them
pub record CutUnits (list left : List ℕ) (place : ℕ) : Type 0 where
  pub left_is : unit_scalars (drop place list) ≡ left
  pub within : place ≤ length list
  pub apart : (k : ℕ) → place ≡ k + 1 → (is_high_surrogate (get_or list k 0) && is_low_surrogate (get_or list (k + 1) 0)) ≡ false

abbrev Bounded : List ℕ → Type 0
Bounded list = (i : ℕ) → get_or list i 0 < 65536

pub utf16_cut : (list taken left : List ℕ) → Bounded list → unit_scalars list ≡ taken ++ left → CutUnits list left (length (all_code_units Utf16 taken))
utf16_cut list [] left b e = grind arith
utf16_cut [] (c ∷ taken) left b e = grind (arith, utf16_chars-nil)
utf16_cut (u ∷ []) (c ∷ taken) left b e =
    grind (arith, scalars_lone (u ∷ []) 0, unpaired_bound u (b 0), utf16_1 c, utf16_cut [] taken left (λ i. b (suc i)))
utf16_cut (u ∷ v ∷ list) (c ∷ taken) left b e =
    let pair = utf16_cut list taken left (λ i. b (suc (suc i))) in
    let lone = utf16_cut (v ∷ list) taken left (λ i. b (suc i)) in
    let few = unpaired_bound u (b 0) in
    grind (arith, pair_or_not u v, scalars_lone (u ∷ v ∷ list) 0, scalars_pair (u ∷ v ∷ list) 0, few, utf16_1 c, utf16_2 c)

-- what a call left of a whole text
pub utf8_read : (text taken left : List ℕ) (read : ℕ) → IsUtf8 text → chars text ≡ taken ++ left →
    read + length (all_code_units Utf8 left) ≡ 0 + length (all_code_units Utf8 (chars text)) → CutAt text taken left read
utf8_read text taken left read u e p =
    let all : text ≡ encodes taken ++ encodes left = sym (encodes-chars text u) ∙ ap encodes e ∙ encodes-append taken left in
    let good : scalars left ≡ true = scalars-right taken left (ap scalars (sym e) ∙ scalars-chars text u) in
    let boundary = IsCharBoundary-at_seam text (encodes taken) (encodes left) all (left, (good, refl)) in
    let place = passed_is Utf8 (chars text) taken left read e p in
    grind (arith, place, encodes-code_units taken, drop-append_seam (encodes taken) (encodes left), chars-encodes left good)

pub utf16_read : (list taken left : List ℕ) (read : ℕ) → Bounded list → unit_scalars list ≡ taken ++ left
    → read + length (all_code_units Utf16 left) ≡ 0 + length (all_code_units Utf16 (unit_scalars list)) → CutUnits list left read
utf16_read list taken left read b e p =
    subst (CutUnits list left) (sym (passed_is Utf16 (unit_scalars list) taken left read e p)) (utf16_cut list taken left b e)

pub unit_boundary : (list left : List ℕ) (place : ℕ) → CutUnits list left place → IsUnitBoundary list place
unit_boundary list left place h = grind arith

-- ---- a front that is ASCII, or has no surrogates

-- code units that are not surrogates are their own scalars
pub bmp_scalars : (front others : List ℕ) → ((k : ℕ) → k < length front → IsNoSurrogate (get_or front k 0)) →
    unit_scalars (front ++ others) ≡ front ++ unit_scalars others
bmp_scalars [] others bmp = refl
bmp_scalars (u ∷ front) others bmp =
    let rest = bmp_scalars front others (λ k h. bmp (suc k) (omega arith)) in
    grind (arith, nat_tests, bmp 0, scalars_lone (u ∷ (front ++ others)) 0, lone_unit_char_low, lone_unit_char_high)

-- The first n of the scalars that are left are these, and the others come after them.
pub record IsFront (all front others : List ℕ) (n : ℕ) : Type 0 where
  pub front_is : front ≡ take n all
  pub others_is : others ≡ drop n all
  pub within : n ≤ length all

pub front_of : (all front others : List ℕ) (n : ℕ) → length front ≡ n → all ≡ front ++ others → IsFront all front others n
front_of all front others n long e = grind (arith, nat_tests, length-append, drop-append_seam, take-append_seam)

-- ASCII from a place on
pub utf8_ascii : (text : List ℕ) (place n : ℕ) → n ≤ length (drop place text) → IsAscii (take n (drop place text)) → is_utf8 (drop place text) ≡ true
    → IsFront (chars (drop place text)) (take n (drop place text)) (chars (drop (place + n) text)) n × (is_utf8 (drop (place + n) text) ≡ true)
utf8_ascii text place n within ascii u =
    let rest = drop place text in
    let is = IsUtf8-from_is_utf8 rest u in
    let front = IsUtf8-from_ascii (take n rest) ascii in
    let split = chars-append (take n rest) (drop n rest) front in
    let is_text = is_utf8-from_IsUtf8 (drop n rest) (IsUtf8-drop rest n is (IsCharBoundary-from_take rest n is within front)) in
    let is_front = front_of (chars rest) (take n rest) (chars (drop n rest)) n (length-take-le n rest within) in
    grind (arith, take-append-drop n rest, split, chars-IsAscii (take n rest) ascii, is_text, drop-drop n place text, is_front)

-- code units from a place on that are no surrogates
pub bmp_front : (list : List ℕ) (place n : ℕ) → n ≤ length (drop place list) → ((k : ℕ) → k < n → IsNoSurrogate (get_or (drop place list) k 0))
    → IsFront (unit_scalars (drop place list)) (take n (drop place list)) (unit_scalars (drop (place + n) list)) n
bmp_front list place n within bmp =
    let rest = drop place list in
    let long = length-take-le n rest within in
    let own = bmp_scalars (take n rest) (drop n rest) (λ k h. grind (arith, bmp k, get_or-take)) in
    let front = front_of (unit_scalars rest) (take n rest) (unit_scalars (drop n rest)) n in
    grind (arith, take-append-drop n rest, own, drop-drop n place list, front)

-- with no surrogate among them, they are the scalars
module _ (list : List ℕ) (place n : ℕ) (bound : (k : ℕ) → get_or list k 0 < 65536) (within : n ≤ length (drop place list))
    (bmp : (k : ℕ) → k < n → IsNoSurrogate (get_or (drop place list) k 0)) where
  pub bmp_count : total_unit_count Utf16 (take n (unit_scalars (drop place list))) ≡ n
  bmp_count = grind (arith, nat_tests, bmp_front list place n within bmp, own_units, length-take-le, get_or-take, get_or-drop)

  pub bmp_writes : (gives : ℕ → ℕ → Type 0) (old new : List ℕ) → WritesCodes gives (drop place list) n old new
      → WritesCodes gives (unit_scalars (drop place list)) n old new
  bmp_writes gives old new w = grind (arith, nat_tests, get_or-take, bmp_front list place n within bmp)

pub takes_units : (list : List ℕ) (place n : ℕ) → place + n ≤ length list → ((k : ℕ) → get_or list k 0 < 65536) → (units : List ℕ)
    → units ≡ take n (drop place list) → TakesUnits Utf16 (unit_scalars (drop place list)) place units (unit_scalars (drop (place + n) list)) (place + n)
takes_units list place n fits bound units is =
    let long : n ≤ length (drop place list) = omega (arith, length-drop place list) in
    let front = bmp_front list place n long in
    let many = bmp_count list place n bound long in
    grind (arith, front, many, length-take-le, get_or-take, take-append-drop n (unit_scalars (drop place list)))

-- ---- the next scalar

pub none_left : (xs : List ℕ) → None ≡ slice_get xs 0 → xs ≡ []
none_left [] e = refl
none_left (x ∷ xs) e = cc

-- the scalar at a place, and the text after it
pub utf8_next : (text : List ℕ) (place : ℕ) → place ≤ length text → is_utf8 (drop place text) ≡ true → 0 < length (chars (drop place text))
    → ReadsScalar text place (get_or (chars (drop place text)) 0 0) (place + unit_count Utf8 (get_or (chars (drop place text)) 0 0))
utf8_next text place p u some =
    let bs = drop place text in
    let c = get_or (chars bs) 0 0 in
    let is = IsUtf8-from_is_utf8 bs u in
    let stands = utf8_stands text place c u (sym (slice_get-get_or (chars bs) 0 0 some)) in
    let is_text = is_utf8-from_IsUtf8 stands.rest (IsUtf8-past_char bs stands.rest c is stands.is) in
    let past = drop_past_char text stands.rest place c stands.is in
    let all = chars_past_char bs stands.rest c is stands.is in
    grind (arith, length-encode c, ap length stands.is, length-append (encode c) stands.rest, length-drop place text)

pub utf16_next : (list : List ℕ) (place : ℕ) → ((i : ℕ) → get_or list i 0 < 65536) → 0 < length (unit_scalars (drop place list))
    → let c = get_or (unit_scalars (drop place list)) 0 0 in
    (unit_scalars (drop place list) ≡ c ∷ unit_scalars (drop (place + unit_count Utf16 c) list)) × (place + unit_count Utf16 c ≤ length list)
utf16_next list place bound some =
    let left = unit_scalars (drop place list) in
    let f = sym (slice_get-get_or left 0 0 some) in
    let step = utf16_step list place (get_or left 0 0) (unit_count Utf16 (get_or left 0 0)) bound (some_within list place _ f) f in
    grind (arith, first_cons left (get_or left 0 0) f, step, utf16_1, utf16_2)

pub ruleset advance_steps = (slice_get_cases, nat_tests, utf8_next, length-encode, utf16_next, utf16_1, utf16_2)

pub ruleset ascii_steps = (take_rest, length-drop, utf8_ascii, bmp_front, get_or-take)

pub ruleset unit_steps = (common_steps, scalars_lone, scalars_pair, scalars_end, lone_unit_char_low, lone_unit_char_high, lone_unit_char_surrogate)

pub ruleset next_steps = (first_cons, none_left, slice_get_cases, nat_tests, utf8_next, some_units, utf8_stands)

pub ruleset text_steps = (IsCharBoundary-from_drop, IsUtf8-from_is_utf8, is_utf8-from_IsUtf8)

pub ruleset by_bytes_steps = (by_first, get_or-drop, length-drop)
