-- Laws of event lines.
use Rattle.std.proofs.Common.{◌≡◌, ℕ, zero, suc, zero-add, ◌+◌, ◌*◌, ◌-◌, ◌/◌, ◌%◌, ◌≤◌, ◌<◌, ◌^◌, List, [], ◌∷◌, ◌++◌, length, map, refl, sym, arith}
use Rattle.std.proofs.{Common.{append_assoc, append-nil, decimal}, lemmas.Fmt.{decimal_step, decimal_digit, length-decimal-le}}
use Rattle.legacy_base.specs.{declared.results.DecodeEvent.DecodeEvent, declared.results.DecodeEvent.TheVariants.{Scalar, Bad}}
use Rattle.legacy_codecs.proofs.ReferenceTexts.{length-decimal_one, length-decimal_more}
use Rattle.legacy_streams.specs.Lines.{event_line, event_lines, malformed_events}
use Rattle.legacy_streams.proofs.Hexadecimal.{glyph, last_four, hexadecimal_4, hexadecimal_5, hexadecimal_6}

pub line_of_four : (c : ℕ) → c < 0x1_0000 → event_line (Scalar c) ≡ 85 ∷ 43 ∷ (last_four c ++ 10 ∷ [])
unfolding event_line
line_of_four c h = rw (hexadecimal_4 c h) refl

pub line_of_five : (c : ℕ) → 0x1_0000 ≤ c → c < 0x10_0000 → event_line (Scalar c) ≡ 85 ∷ 43 ∷ glyph (c / 0x1_0000) ∷ (last_four c ++ 10 ∷ [])
unfolding event_line
line_of_five c k h = rw (hexadecimal_5 c k h) refl

pub line_of_six : (c : ℕ) → 0x10_0000 ≤ c → c < 0x100_0000
    → event_line (Scalar c) ≡ 85 ∷ 43 ∷ glyph (c / 0x10_0000) ∷ glyph (c / 0x1_0000) ∷ (last_four c ++ 10 ∷ [])
unfolding event_line
line_of_six c k h = rw (hexadecimal_6 c k h) refl

-- the line of a malformed sequence is made of five parts
pub malformed_line : (o : List ℕ) {a b c d e : List ℕ} (place n : ℕ) → a ≡ o ++ 98 ∷ 97 ∷ 100 ∷ 32 ∷ [] → b ≡ a ++ decimal place
    → c ≡ b ++ 32 ∷ [] → d ≡ c ++ decimal n → e ≡ d ++ 10 ∷ [] → e ≡ o ++ event_line (Bad place n)
unfolding event_line
malformed_line o place n p q r s t = rw (t, s, r, q, p) (simp append_assoc)

pub event_lines-append : (xs ys : List DecodeEvent) → event_lines (xs ++ ys) ≡ event_lines xs ++ event_lines ys
unfolding event_lines
event_lines-append [] ys = refl
event_lines-append (x ∷ xs) ys = simp (event_lines-append xs ys, append_assoc)

pub event_lines-one : (event : DecodeEvent) → event_lines (event ∷ []) ≡ event_line event
unfolding event_lines
event_lines-one event = append-nil (event_line event)

pub event_lines-none : event_lines [] ≡ []
unfolding event_lines
event_lines-none = refl

pub no_lines : (o : List ℕ) → o ≡ o ++ event_lines []
unfolding event_lines
no_lines o = sym (append-nil o)

pub length-decimal_20 : (n : ℕ) → n < 2 ^ 64 → length (decimal n) ≤ 20
length-decimal_20 n h = length-decimal-le 20 n (omega arith) (omega arith) h

-- the digits of a number are those of its hundreds and two more
pub decimal_of_hundreds : (n : ℕ) → 100 ≤ n → n < 2 ^ 64 → decimal n ≡ decimal (n / 100) ++ (48 + n % 100 / 10) ∷ (48 + n % 100 % 10) ∷ []
decimal_of_hundreds n h k = grind (arith, decimal_step, append_assoc, decimal)

-- the number of decimal digits of a number
pub ruleset decimal_lengths = (length-decimal_one, length-decimal_more, length-decimal_20)

-- the lines of a call that reports a malformed sequence: those of its scalars, and then one for the sequence
pub line_of_malformed : (o : List ℕ) {a b : List ℕ} (scalars : List ℕ) {place n : ℕ} (read sequence back : ℕ)
    → a ≡ o ++ event_lines (map Scalar scalars) → b ≡ a ++ event_line (Bad place n) → place ≡ read - back - sequence → n ≡ sequence
    → b ≡ o ++ event_lines (map Scalar scalars ++ Bad (read - back - sequence) sequence ∷ [])
line_of_malformed o scalars read sequence back p q e f = rw (event_lines-append, event_lines-one, ← e, ← f, q, p) (append_assoc o _ _)

-- ---- malformed sequences of one byte each

pub malformed_events-append : (place m n : ℕ) → malformed_events place (m + n) ≡ malformed_events place m ++ malformed_events (place + m) n
unfolding malformed_events
malformed_events-append place zero n = grind (arith, zero-add)
malformed_events-append place (suc m) n =
    let e : place + 1 + m ≡ place + suc m = omega arith in
    let s : suc m + n ≡ suc (m + n) = omega arith in
    rw (s, malformed_events-append (place + 1) m n, e) refl

pub malformed_events-one : (place : ℕ) → malformed_events place 1 ≡ Bad place 1 ∷ []
unfolding malformed_events
malformed_events-one place = refl

pub no_malformed_lines : (o : List ℕ) (place : ℕ) → o ≡ o ++ event_lines (malformed_events place 0)
unfolding malformed_events
no_malformed_lines o place = no_lines o

-- the lines of m sequences and then those of n more are the lines of m + n
pub more_malformed_lines : (o : List ℕ) {a b : List ℕ} (place m n : ℕ) → a ≡ o ++ event_lines (malformed_events place m)
    → b ≡ a ++ event_lines (malformed_events (place + m) n) → b ≡ o ++ event_lines (malformed_events place (m + n))
more_malformed_lines o place m n p q = grind (arith, malformed_events-append, event_lines-append, append_assoc)

-- the line of one such sequence
pub one_malformed_line : (place : ℕ) → event_line (Bad place 1) ≡ event_lines (malformed_events place 1)
one_malformed_line place = rw (malformed_events-one place) (sym (event_lines-one (Bad place 1)))

-- the line of one such sequence, from the digits of the hundreds of its place and the last two digits
pub malformed_byte_line : (o : List ℕ) {a b e : List ℕ} (number rest : ℕ) → 1 ≤ number → rest < 100 → number * 100 + rest < 2 ^ 64
    → a ≡ o ++ 98 ∷ 97 ∷ 100 ∷ 32 ∷ [] → b ≡ a ++ decimal number
    → e ≡ b ++ (48 + rest / 10) ∷ (48 + rest % 10) ∷ 32 ∷ 49 ∷ 10 ∷ []
    → e ≡ o ++ event_line (Bad (number * 100 + rest) 1)
malformed_byte_line o {a} {b} number rest some few within p q r = grind (arith, decimal, decimal_of_hundreds, append_assoc, decimal_digit, malformed_line)
