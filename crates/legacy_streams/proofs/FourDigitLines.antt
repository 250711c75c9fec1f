-- The lines of scalars of one code unit, and the scalars of code units.
use Rattle.std.proofs.Common.{◌≡◌, ◌∙◌, ℕ, suc, ◌+◌, ◌*◌, ◌/◌, ◌%◌, ◌≤◌, ◌<◌, List, [], ◌∷◌, ◌++◌, length, take, drop, map, get_or, refl, sym, ap, arith}
use Rattle.std.proofs.{Common.{inl, inr, ◌⊎◌, All, Some, slice_get, append_assoc, append-nil, take-suc, add-one, None, ◌^◌}, lemmas.Bool.cases_lt}
use Rattle.std.proofs.{lemmas.Bool.Decides.nat_tests, lemmas.List.map-append, lemmas.Nat.le_bytes_8, lemmas.Str.{utf16_chars-nil, utf16_chars_lone}}
use Rattle.std.proofs.{lemmas.Str.utf16_chars_pair, str.Utf16.{IsPair, lone_unit_char_low, lone_unit_char_high}}
use Rattle.std.specs.{Char.IsScalar, Char.Utf16.{lone_unit_char}, Int.{w64, to_le_bytes}, List.range_with_len}
use Rattle.legacy_base.specs.declared.results.DecodeEvent.TheVariants.{Scalar}
use Rattle.legacy_text.specs.{EncodingForm.{Utf16, all_code_units}, Texts.unit_scalars}
use Rattle.legacy_text.proofs.{CodeUnits.{utf16_1, utf16_2}, Texts.{replaced, scalars_lone, scalars_end, first_cons, none_left, utf16_step}}
use Rattle.legacy_streams.specs.{Lines.{event_line, event_lines}, declared.line_parts.TheConstants.{HEADS, TAILS}}
use Rattle.legacy_streams.proofs.{EventLines.{line_of_four, event_lines-append, event_lines-one}, Hexadecimal.glyph}

-- ---- the two parts of a line

-- `U+` and two digits, the first in the low byte
pub head_number : ℕ → ℕ
head_number n = 85 + 43 * 0x100 + glyph (n / 16) * 0x1_0000 + glyph n * 0x100_0000

-- two digits and the line feed, after four bytes of 0
pub tail_number : ℕ → ℕ
tail_number n = glyph (n / 16) * 0x1_0000_0000 + glyph n * 0x100_0000_0000 + 10 * 0x1_0000_0000_0000

pub heads_are : HEADS ≡ map head_number (range_with_len 0 256)
unfolding head_number
heads_are = refl

pub tails_are : TAILS ≡ map tail_number (range_with_len 0 256)
unfolding tail_number
tails_are = refl

small_glyph : (n : ℕ) → glyph n < 128
small_glyph n = grind (arith, nat_tests)

-- the sum of the parts fits in 64 bits
pub parts_fit : (h t : ℕ) → head_number h + tail_number t < 2 ^ 64
unfolding head_number tail_number
parts_fit h t = grind (arith, small_glyph)

same_glyph : (m n : ℕ) → m % 16 ≡ n % 16 → glyph m ≡ glyph n
same_glyph m n e = rw e refl

all_bytes : (a b c d : ℕ) → a < 256 → b < 256 → c < 256 → d < 256 → (i : ℕ) → get_or (85 ∷ 43 ∷ a ∷ b ∷ c ∷ d ∷ 10 ∷ 0 ∷ []) i 0 < 256
all_bytes a b c d h h1 h2 h3 i = grind arith

-- the bytes of the sum of both parts
bytes_of_parts : (a b c d n : ℕ) → a < 128 → b < 128 → c < 128 → d < 128
    → n ≡ (85 + 43 * 0x100 + a * 0x1_0000 + b * 0x100_0000) + (c * 0x1_0000_0000 + d * 0x100_0000_0000 + 10 * 0x1_0000_0000_0000)
    → to_le_bytes w64 n ≡ 85 ∷ 43 ∷ a ∷ b ∷ c ∷ d ∷ 10 ∷ 0 ∷ []
bytes_of_parts a b c d n p q r s e = grind (arith, le_bytes_8, all_bytes)

-- the first seven of these bytes are the line
pub line_of_parts : (u n : ℕ) (bytes : List ℕ) → u < 0x1_0000 → n ≡ head_number (u / 256) + tail_number (u % 256)
    → bytes ≡ to_le_bytes w64 n → take 7 bytes ≡ event_line (Scalar u)
unfolding head_number tail_number
line_of_parts u n bytes h e f = grind (arith, same_glyph, glyph, bytes_of_parts, small_glyph, line_of_four)

-- ---- the scalars of code units

abbrev pub scalar_lines : List ℕ → List ℕ
scalar_lines scalars = event_lines (map Scalar scalars)

scalar_lines-append : (xs ys : List ℕ) → scalar_lines (xs ++ ys) ≡ scalar_lines xs ++ scalar_lines ys
scalar_lines-append xs ys = ap event_lines (map-append Scalar xs ys) ∙ event_lines-append (map Scalar xs) (map Scalar ys)

-- a code unit that is not a surrogate is a scalar
replaced_unit : (u : ℕ) → (u < 0xD800) ⊎ (0xE000 ≤ u) → replaced (lone_unit_char u) ≡ u
replaced_unit u h = grind (arith, replaced, lone_unit_char_low, lone_unit_char_high)

apart : (u v : ℕ) → (u < 0xD800) ⊎ (0xE000 ≤ u) → IsPair u v → ⊥
apart u v h h1 = grind arith

-- the scalars of one more code unit that is not a surrogate
pub four_digit_more : (units : List ℕ) (at u : ℕ) → at < length units → u ≡ get_or units at 0 → (u < 0xD800) ⊎ (0xE000 ≤ u)
    → unit_scalars units ≡ take at units ++ unit_scalars (drop at units)
    → unit_scalars units ≡ take (at + 1) units ++ unit_scalars (drop (at + 1) units)
four_digit_more units at u h e single given =
    let unpaired = rw (← e) at (scalars_lone units at h) in
    let next = rw (replaced_unit u single) at (unpaired (apart u (get_or units (at + 1) 0) single)) in
    let more : take (at + 1) units ≡ take at units ++ u ∷ [] = rw (add-one at, take-suc units at 0 h, e) refl in
    rw (more, given, next) (sym (append_assoc (take at units) (u ∷ []) _))

-- the lines of one more code unit that is not a surrogate
pub four_digit_line_more : (o units : List ℕ) (at u : ℕ) {a b : List ℕ} → at < length units → u ≡ get_or units at 0
    → a ≡ o ++ scalar_lines (take at units) → b ≡ a ++ event_line (Scalar u) → b ≡ o ++ scalar_lines (take (at + 1) units)
four_digit_line_more o units at u h e p q =
    rw (q, p, add-one at, take-suc units at 0 h, scalar_lines-append, event_lines-one, e) (append_assoc o _ _)

-- the lines of the first n units and those of the rest are the lines of all
pub front_lines : (o units : List ℕ) (n : ℕ) {a : List ℕ} → a ≡ o ++ scalar_lines (take n units)
    → unit_scalars units ≡ take n units ++ unit_scalars (drop n units)
    → a ++ scalar_lines (unit_scalars (drop n units)) ≡ o ++ scalar_lines (unit_scalars units)
front_lines o units n e f = grind (arith, scalar_lines-append, append_assoc)

-- the line of the first scalar and those of the rest are the lines of all
pub first_line : (o units : List ℕ) (c n : ℕ) {a : List ℕ} → Some c ≡ slice_get (unit_scalars units) 0
    → unit_scalars (drop n units) ≡ drop 1 (unit_scalars units) → a ≡ o ++ event_line (Scalar c)
    → a ++ scalar_lines (unit_scalars (drop n units)) ≡ o ++ scalar_lines (unit_scalars units)
unfolding event_lines
first_line o units c n e after p = grind (arith, append_assoc, first_cons)

-- the first scalar has n code units: bounds of n, and the scalars after it
pub record FirstUnits (units : List ℕ) (n : ℕ) : Type 0 where
  pub some : 0 < n
  pub within : n ≤ length units
  pub after : unit_scalars (drop n units) ≡ drop 1 (unit_scalars units)

pub first_units : (units : List ℕ) (c n : ℕ) → ((i : ℕ) → get_or units i 0 < 65536) → 0 < length units → Some c ≡ slice_get (unit_scalars units) 0
    → (c < 65536 → n ≡ 1) → (65536 ≤ c → n ≡ 2) → FirstUnits units n
first_units units c n bound h e short long =
    let step = utf16_step units 0 c n bound h e short long in
    let z : 0 + n ≡ n = omega arith in
    record {
      some = elim (cases_lt c 65536) [ inl l ↦ omega (arith, short l) | inr l ↦ omega (arith, long l) ];
      within = omega (arith, step.within);
      after = rw z at step.after;
    }

-- after all units there are no scalars
pub none_after : (units : List ℕ) → None ≡ slice_get (unit_scalars units) 0
    → scalar_lines (unit_scalars (drop (length units) units)) ≡ scalar_lines (unit_scalars units)
none_after units e = ap scalar_lines (scalars_end units (length units) (omega arith) ∙ sym (none_left (unit_scalars units) e))

-- after the last unit no lines are left
pub all_lines : (o l units : List ℕ) (at : ℕ) → length units ≤ at → l ++ scalar_lines (unit_scalars (drop at units)) ≡ o → l ≡ o
unfolding event_lines
all_lines o l units at h e = sym (append-nil l) ∙ ap (λ x. l ++ scalar_lines x) (sym (scalars_end units at h)) ∙ e

-- the scalars of the code units of scalars are these scalars
pub scalars_of_units : (cs : List ℕ) → All IsScalar cs → unit_scalars (all_code_units Utf16 cs) ≡ cs
scalars_of_units [] all = ap (map replaced) utf16_chars-nil
scalars_of_units (c ∷ cs) all =
    let rest = scalars_of_units cs (λ k d l. all (suc k) d (omega arith)) in
    let is : IsScalar c = all 0 0 (omega arith) in
    grind (arith, nat_tests, utf16_1, utf16_2, utf16_chars_lone, utf16_chars_pair, apart, replaced_unit)
