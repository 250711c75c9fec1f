-- The hexadecimal digits of a scalar, as the code computes them.
use Rattle.std.proofs.Common.{◌≡◌, ℕ, zero, suc, ◌/◌, ◌%◌, ◌≤◌, ◌<◌, List, [], ◌∷◌, refl, arith, true, ⊎_elim}
use Rattle.std.proofs.lemmas.{Bool.cases_lt, Bool.Decides.nat_tests}
use Rattle.std.specs.Fmt.{digits, digits_onto, digit_glyph}
use Rattle.legacy_streams.specs.Lines.{hexadecimal}

-- the last hexadecimal digit of a number
abbrev pub glyph : ℕ → ℕ
glyph n = digit_glyph true (n % 16)

-- the last `count` hexadecimal digits of a number, before `acc`
abbrev pub glyphs : ℕ → ℕ → List ℕ → List ℕ
glyphs zero n acc = acc
glyphs (suc count) n acc = glyphs count (n / 16) (glyph n ∷ acc)

-- a number has exactly count + 1 hexadecimal digits
abbrev pub HasMore : ℕ → ℕ → Type 0
HasMore zero n = n < 16
HasMore (suc count) n = (16 ≤ n) × HasMore count (n / 16)

all_digits : (count k n : ℕ) (acc : List ℕ) → count ≤ k → HasMore count n → digits_onto (suc k) 16 true n acc ≡ glyphs (suc count) n acc
all_digits zero k n acc l h = grind (arith, nat_tests)
all_digits (suc count) zero n acc l h = absurd (omega arith)
all_digits (suc count) (suc k) n acc l h = grind (arith, nat_tests, all_digits count k (n / 16))

digits_are : (count n : ℕ) → count ≤ 63 → HasMore count n → digits 16 true n ≡ glyphs (suc count) n []
unfolding digits
digits_are count n l h = all_digits count 63 n [] l h

-- the last four hexadecimal digits
abbrev pub last_four : ℕ → List ℕ
last_four n = glyph (n / 0x1000) ∷ glyph (n / 0x100) ∷ glyph (n / 0x10) ∷ glyph n ∷ []

-- the digit of 0 is `0`
zero_glyph : (n : ℕ) → n ≡ 0 → glyph n ≡ 48
zero_glyph n e = rw e refl

-- of a number with fewer digits, the first of the last four are `0`
hexadecimal_1 : (n : ℕ) → n < 0x10 → hexadecimal n ≡ last_four n
unfolding hexadecimal
hexadecimal_1 n h =
    let third = zero_glyph (n / 0x10) (omega arith) in
    let second = zero_glyph (n / 0x100) (omega arith) in
    let first = zero_glyph (n / 0x1000) (omega arith) in
    rw (digits_are 0 n (omega arith) h, third, second, first) refl

hexadecimal_2 : (n : ℕ) → 0x10 ≤ n → n < 0x100 → hexadecimal n ≡ last_four n
unfolding hexadecimal
hexadecimal_2 n l h =
    let second = zero_glyph (n / 0x100) (omega arith) in
    let first = zero_glyph (n / 0x1000) (omega arith) in
    rw (digits_are 1 n (omega arith) (l, omega arith), second, first) refl

hexadecimal_3 : (n : ℕ) → 0x100 ≤ n → n < 0x1000 → hexadecimal n ≡ last_four n
unfolding hexadecimal
hexadecimal_3 n l h =
    let third : n / 0x10 / 0x10 ≡ n / 0x100 = omega arith in
    let first = zero_glyph (n / 0x1000) (omega arith) in
    rw (digits_are 2 n (omega arith) (omega arith, (omega arith, omega arith)), third, first) refl

hexadecimal_exact : (n : ℕ) → 0x1000 ≤ n → n < 0x1_0000 → hexadecimal n ≡ last_four n
unfolding hexadecimal
hexadecimal_exact n l h =
    let third : n / 0x10 / 0x10 ≡ n / 0x100 = omega arith in
    let fourth : n / 0x100 / 0x10 ≡ n / 0x1000 = omega arith in
    let some : 16 ≤ n / 0x10 / 0x10 = omega arith in
    let last : n / 0x10 / 0x10 / 0x10 < 16 = rw (third, fourth) (omega arith) in
    rw (digits_are 3 n (omega arith) (omega arith, (omega arith, (some, last))), third, fourth) refl

pub hexadecimal_4 : (n : ℕ) → n < 0x1_0000 → hexadecimal n ≡ last_four n
hexadecimal_4 n h =
    ⊎_elim (hexadecimal_1 n)
    (λ l. ⊎_elim (hexadecimal_2 n l) (λ m. ⊎_elim (hexadecimal_3 n m) (λ k. hexadecimal_exact n k h) (cases_lt n 0x1000)) (cases_lt n 0x100))
    (cases_lt n 0x10)

pub hexadecimal_5 : (n : ℕ) → 0x1_0000 ≤ n → n < 0x10_0000 → hexadecimal n ≡ glyph (n / 0x1_0000) ∷ last_four n
unfolding hexadecimal
hexadecimal_5 n l h =
    let third : n / 0x10 / 0x10 ≡ n / 0x100 = omega arith in
    let fourth : n / 0x100 / 0x10 ≡ n / 0x1000 = omega arith in
    let fifth : n / 0x1000 / 0x10 ≡ n / 0x1_0000 = omega arith in
    let some : 16 ≤ n / 0x10 / 0x10 = omega arith in
    let more : 16 ≤ n / 0x10 / 0x10 / 0x10 = rw (third, fourth) (omega arith) in
    let last : n / 0x10 / 0x10 / 0x10 / 0x10 < 16 = rw (third, fourth, fifth) (omega arith) in
    rw (digits_are 4 n (omega arith) (omega arith, (omega arith, (some, (more, last)))), third, fourth, fifth) refl

pub hexadecimal_6 : (n : ℕ) → 0x10_0000 ≤ n → n < 0x100_0000 → hexadecimal n ≡ glyph (n / 0x10_0000) ∷ glyph (n / 0x1_0000) ∷ last_four n
unfolding hexadecimal
hexadecimal_6 n l h =
    let third : n / 0x10 / 0x10 ≡ n / 0x100 = omega arith in
    let fourth : n / 0x100 / 0x10 ≡ n / 0x1000 = omega arith in
    let fifth : n / 0x1000 / 0x10 ≡ n / 0x1_0000 = omega arith in
    let sixth : n / 0x1_0000 / 0x10 ≡ n / 0x10_0000 = omega arith in
    let some : 16 ≤ n / 0x10 / 0x10 = omega arith in
    let more : 16 ≤ n / 0x10 / 0x10 / 0x10 = rw (third, fourth) (omega arith) in
    let most : 16 ≤ n / 0x10 / 0x10 / 0x10 / 0x10 = rw (third, fourth, fifth) (omega arith) in
    let last : n / 0x10 / 0x10 / 0x10 / 0x10 / 0x10 < 16 = rw (third, fourth, fifth, sixth) (omega arith) in
    rw (digits_are 5 n (omega arith) (omega arith, (omega arith, (some, (more, (most, last))))), third, fourth, fifth, sixth) refl
