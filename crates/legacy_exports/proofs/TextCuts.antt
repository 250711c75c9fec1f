-- Where a text in UTF-16 may be cut.
use Rattle.std.proofs.Common.{◌≡◌, ◌∙◌, ℕ, suc, ◌+◌, ◌-◌, ◌<◌, ◌≤◌, ◌↔◌, inl, inr, List, [], ◌∷◌, ◌++◌, length, get_or, map, take, drop, Option}
use Rattle.std.proofs.Common.{Bool, true, false, ◌&&◌, IsTrue, nat_eq, ltb, refl, sym, ap, arith, length-take, length-drop, get_or-take, get_or-drop}
use Rattle.std.proofs.lemmas.Str.{utf16_chars-nil, utf16_chars_lone, utf16_chars_pair, encodes-chars, chars-nil}
use Rattle.std.proofs.{lemmas.Bool.Decides.nat_tests, lemmas.List.{take_all, take-append-drop, get_or_past, nil_from_length}}
use Rattle.std.specs.Str.{chars, IsUtf8}
use lib.Utf8.{encodes}
use Rattle.std.proofs.str.Utf16.{IsPair}
use Rattle.std.specs.Char.Utf16.{lone_unit_char, surrogate_pair_char, is_high_surrogate, is_low_surrogate}
use Rattle.std.specs.Option.{unwrap_or}
use Rattle.legacy_text.{specs.Texts.unit_scalars, proofs.Texts.pair_or_not}

abbrev replaced : Option ℕ → ℕ
replaced o = unwrap_or o 0xFFFD

-- no pair of surrogates is split between two lists of code units
abbrev pub IsSeam : List ℕ → List ℕ → Type 0
IsSeam xs ys = (k : ℕ) → length xs ≡ k + 1 → (is_high_surrogate (get_or xs k 0) && is_low_surrogate (get_or ys 0 0)) ≡ false

no_pair : (u v : ℕ) → (is_high_surrogate u && is_low_surrogate v) ≡ false → IsPair u v → ⊥
no_pair u v e p = grind arith

pub unit_scalars-append : (xs ys : List ℕ) → IsSeam xs ys → unit_scalars (xs ++ ys) ≡ unit_scalars xs ++ unit_scalars ys
unit_scalars-append [] ys h = sym (ap (λ l. map replaced l ++ unit_scalars ys) utf16_chars-nil)
unit_scalars-append (u ∷ []) ys h =
    let unpaired : IsPair u (get_or ys 0 0) → ⊥ = no_pair u (get_or ys 0 0) (h 0 refl) in
    let alone : IsPair u 0 → ⊥ = λ q. omega (arith, q.1) in
    let one = utf16_chars_lone u [] alone ∙ ap (λ l. lone_unit_char u ∷ l) utf16_chars-nil in
    ap (map replaced) (utf16_chars_lone u ys unpaired) ∙ sym (ap (λ l. map replaced l ++ unit_scalars ys) one)
unit_scalars-append (u ∷ v ∷ xs) ys h = elim (pair_or_not u v) [
  | inl p ↦
      ap (map replaced) (utf16_chars_pair u v (xs ++ ys) p)
      ∙ ap (λ l. surrogate_pair_char u v ∷ l) (unit_scalars-append xs ys (λ k e. h (suc (suc k)) (omega arith)))
      ∙ sym (ap (λ l. map replaced l ++ unit_scalars ys) (utf16_chars_pair u v xs p))
  | inr p ↦
      ap (map replaced) (utf16_chars_lone u (v ∷ (xs ++ ys)) p)
      ∙ ap (λ l. replaced (lone_unit_char u) ∷ l) (unit_scalars-append (v ∷ xs) ys (λ k e. h (suc k) (omega arith)))
      ∙ sym (ap (λ l. map replaced l ++ unit_scalars ys) (utf16_chars_lone u (v ∷ xs) p))
]

-- ---- the place of a cut

-- no pair of surrogates is split at the place
abbrev pub IsApart : List ℕ → ℕ → Type 0
IsApart units place = 0 < place → (is_high_surrogate (get_or units (place - 1) 0) && is_low_surrogate (get_or units place 0)) ≡ false

abbrev pub parts_pair : List ℕ → ℕ → Bool
parts_pair units place =
    ltb 0 place && ltb place (length units) && is_high_surrogate (get_or units (place - 1) 0) && is_low_surrogate (get_or units place 0)

pub apart : (units : List ℕ) (place : ℕ) → place ≤ length units → parts_pair units place ≡ false → IsApart units place
apart units place h e some = grind (arith, nat_tests, get_or_past)

pub apart_after : (units : List ℕ) (place : ℕ) → parts_pair units place ≡ true → IsApart units (place + 1) × (place + 1 ≤ length units)
apart_after units place e = grind (arith, nat_tests)

pub unit_parts : (units : List ℕ) (place : ℕ) → place ≤ length units → IsApart units place →
    unit_scalars units ≡ unit_scalars (take place units) ++ unit_scalars (take (length units - place) (drop place units))
unit_parts units place h a =
    let rest : take (length units - place) (drop place units) ≡ drop place units =
    take_all (length units - place) (drop place units) (omega (arith, length-drop place units)) in
    let seam : IsSeam (take place units) (drop place units) = λ k e. grind (arith, length-take, get_or-take, get_or-drop, a) in
    rw rest (ap unit_scalars (sym (take-append-drop place units)) ∙ unit_scalars-append (take place units) (drop place units) seam)

-- ---- empty texts

pub no_units : (units : List ℕ) → unit_scalars units ≡ [] → units ≡ []
no_units [] e = refl
no_units (u ∷ []) e = grind (arith, utf16_chars_lone)
no_units (u ∷ v ∷ units) e = grind (arith, pair_or_not, utf16_chars_pair, utf16_chars_lone)

pub units_over : (units : List ℕ) → IsTrue (nat_eq (length units) 0) ↔ (unit_scalars units ≡ [])
units_over units = grind (arith, nat_tests, nil_from_length, utf16_chars-nil, no_units)

pub no_bytes : (bytes : List ℕ) → IsUtf8 bytes → chars bytes ≡ [] → bytes ≡ []
no_bytes bytes u e = sym (encodes-chars bytes u) ∙ ap encodes e

pub chars_over : (bytes : List ℕ) → IsUtf8 bytes → IsTrue (nat_eq (length bytes) 0) ↔ (chars bytes ≡ [])
chars_over bytes u = grind (arith, nat_tests, nil_from_length, chars-nil, no_bytes)

-- an empty piece is cut only off an empty text
pub no_piece : (xs : List ℕ) (place : ℕ) → place ≤ length xs → (0 < length xs → 0 < place) → take place xs ≡ [] → xs ≡ []
no_piece [] place h some e = refl
no_piece (x ∷ xs) place h some e = absurd (omega (arith, some (omega arith), ap length e, length-take place (x ∷ xs)))

pub no_scalars : (units : List ℕ) → length units ≡ 0 → unit_scalars units ≡ []
no_scalars units e = ap unit_scalars (nil_from_length units e) ∙ ap (map replaced) utf16_chars-nil
