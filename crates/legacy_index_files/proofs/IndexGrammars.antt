-- The parser of lines agrees with the grammar.
use Rattle.std.proofs.Common.{◌≡◌, ℕ, ◌≤◌, Bool, true, false, List, [], ◌∷◌, ◌++◌, length, Some, nat_eq, refl, sym}
use Rattle.std.proofs.{Common.{subst, inl, arith}, lemmas.Bool.Decides.nat_tests}
use Rattle.std.specs.Option.{unwrap_or}
use Rattle.legacy_index_files.specs.{declared.index_line.LineKind.TheVariants.{Skipped, Entry}, IndexLine.run_of}
use Rattle.legacy_index_files.specs.IndexLine.{after_run, is_blank, past_blanks, says_nothing, is_digit, digits_at, past_digits, number_at}
use Rattle.legacy_index_files.specs.{IndexLine.{past_mark, value_digits, entry_after, entry_at, line_kind}, IndexGrammar.Passes}
use Rattle.legacy_index_files.specs.IndexGrammar.{EndsRun, IsNumber, HasValue, HasEntry, IsEntryLine, SaysNothing, IsSkippedLine, IsOfKind}

-- ---- runs

pub run_parts : (test : ℕ → Bool) (bs : List ℕ) → bs ≡ run_of test bs ++ after_run test bs
run_parts test [] = refl
run_parts test (b ∷ bs) = grind (arith, run_parts test bs)

pub run_passes : (test : ℕ → Bool) (bs : List ℕ) → Passes test (run_of test bs)
run_passes test [] = tt
run_passes test (b ∷ bs) = grind (arith, run_passes test bs)

pub run_ends : (test : ℕ → Bool) (bs : List ℕ) → EndsRun test (after_run test bs)
run_ends test [] = tt
run_ends test (b ∷ bs) = grind (arith, run_ends test bs)

pub run_of-append : (test : ℕ → Bool) (xs ys : List ℕ) → Passes test xs → EndsRun test ys → run_of test (xs ++ ys) ≡ xs
run_of-append test [] [] h e = refl
run_of-append test [] (y ∷ ys) h e = grind arith
run_of-append test (x ∷ xs) ys h e = grind (arith, run_of-append test xs ys)

pub after_run-append : (test : ℕ → Bool) (xs ys : List ℕ) → Passes test xs → EndsRun test ys → after_run test (xs ++ ys) ≡ ys
after_run-append test [] [] h e = refl
after_run-append test [] (y ∷ ys) h e = grind arith
after_run-append test (x ∷ xs) ys h e = grind (arith, after_run-append test xs ys)

-- ---- numbers

pub number_sound : (radix : ℕ) (bs : List ℕ) (n : ℕ × List ℕ) → number_at radix bs ≡ Some n
    → IsNumber radix (digits_at radix bs) n.0 × (n.1 ≡ past_digits radix bs)
number_sound radix bs n h =
    grind (arith, nat_tests, run_passes (is_digit radix) bs)

pub number_complete : (radix : ℕ) (digits after : List ℕ) (n : ℕ) → IsNumber radix digits n → EndsRun (is_digit radix) after
    → number_at radix (digits ++ after) ≡ Some (n, after)
number_complete radix digits after n h e =
    let run = run_of-append (is_digit radix) digits after h.are_digits e in
    let rest = after_run-append (is_digit radix) digits after h.are_digits e in
    grind (arith, nat_tests)

-- ---- a value

mark_sound : (bs digits : List ℕ) → past_mark bs ≡ Some digits → bs ≡ 0x30 ∷ 0x78 ∷ digits
mark_sound [] digits h = absurd (cc)
mark_sound (b ∷ []) digits h = absurd (cc)
mark_sound (b ∷ c ∷ more) digits h = grind (arith, nat_tests)

digits_complete : (blanks digits : List ℕ) → 1 ≤ length blanks → Passes is_blank blanks
    → value_digits (blanks ++ (0x30 ∷ 0x78 ∷ digits)) ≡ Some digits
digits_complete [] digits some blank = absurd (omega arith)
digits_complete (b ∷ bs) digits some blank = grind (arith, after_run-append is_blank bs (0x30 ∷ 0x78 ∷ digits))

-- ---- an entry

-- if the parser finds the digits of a value and their number, the grammar has that value
value_sound : (bytes digits : List ℕ) (n : ℕ × List ℕ) → value_digits bytes ≡ Some digits → number_at 16 digits ≡ Some n → HasValue bytes n.0
value_sound [] digits n marked numbered = absurd (cc)
value_sound (b ∷ bs) digits n marked numbered =
    let found : (is_blank b ≡ true) × (past_mark (past_blanks bs) ≡ Some digits) = grind arith in
    record {
      blanks = b ∷ run_of is_blank bs;
      digits = digits_at 16 digits;
      after = past_digits 16 digits;
      parts = grind (arith, run_parts is_blank bs, mark_sound (past_blanks bs) digits found.1, run_parts (is_digit 16) digits);
      some = omega arith;
      are_blanks = (found.0, run_passes is_blank bs);
      number = (number_sound 16 digits n numbered).0;
      ends = run_ends (is_digit 16) digits;
    }

entry_after_sound : (pointer : ℕ) (bytes : List ℕ) (entry : ℕ × ℕ) → entry_after (pointer, bytes) ≡ Some entry → HasValue bytes entry.1
entry_after_sound pointer bytes entry h =
    let digits = unwrap_or (value_digits bytes) [] in
    let marked : value_digits bytes ≡ Some digits = grind arith in
    let numbered : number_at 16 digits ≡ Some (entry.1, past_digits 16 digits) = grind arith in
    value_sound bytes digits (entry.1, past_digits 16 digits) marked numbered

entry_sound : (bytes : List ℕ) (entry : ℕ × ℕ) → entry_at bytes ≡ Some entry → HasEntry bytes entry.0 entry.1
entry_sound bytes entry h =
    let after = past_digits 10 bytes in
    let numbered : number_at 10 bytes ≡ Some (entry.0, after) = grind arith in
    record {
      digits = digits_at 10 bytes;
      after = after;
      parts = run_parts (is_digit 10) bytes;
      number = (number_sound 10 bytes (entry.0, after) numbered).0;
      has_value = entry_after_sound entry.0 after entry (grind arith);
    }

-- a blank is no digit, and ends a run of digits
blank_ends : (b : ℕ) → is_blank b ≡ true → is_digit 10 b ≡ false
blank_ends b h = grind (arith, nat_tests)

-- a digit is no blank, no carriage return and no `#`
digit_ends : (b : ℕ) → is_digit 10 b ≡ true → (is_blank b ≡ false) × (nat_eq b 0x0D ≡ false) × (nat_eq b 0x23 ≡ false)
digit_ends b h = grind (arith, nat_tests)

value_ends : (bytes : List ℕ) (blanks after : List ℕ) → bytes ≡ blanks ++ after → 1 ≤ length blanks → Passes is_blank blanks
    → EndsRun (is_digit 10) bytes
value_ends bytes [] after parts some blank = absurd (omega arith)
value_ends bytes (b ∷ bs) after parts some blank = subst (EndsRun (is_digit 10)) (sym parts) (blank_ends b blank.0)

value_complete : (bytes : List ℕ) (value pointer : ℕ) → HasValue bytes value → entry_after (pointer, bytes) ≡ Some (pointer, value)
value_complete bytes value pointer h =
    grind (arith, digits_complete h.blanks (h.digits ++ h.after), number_complete 16 h.digits h.after value h.number h.ends)

entry_complete : (bytes : List ℕ) (pointer value : ℕ) → HasEntry bytes pointer value → entry_at bytes ≡ Some (pointer, value)
entry_complete bytes pointer value h =
    let v = h.has_value in
    let ends = value_ends h.after v.blanks _ v.parts v.some v.are_blanks in
    grind (arith, number_complete 10 h.digits h.after pointer h.number ends, value_complete h.after value pointer v)

-- ---- a line

nothing_sound : (bytes : List ℕ) → says_nothing bytes ≡ true → SaysNothing bytes
nothing_sound [] h = inl refl
nothing_sound (b ∷ []) h = grind (arith, nat_tests)
nothing_sound (b ∷ c ∷ more) h = grind (arith, nat_tests)

-- the bytes after the blanks of a line that is skipped, or of another
record IsBody (skipped : Bool) (bytes : List ℕ) : Type 0 where
  ends : EndsRun is_blank bytes
  says : says_nothing bytes ≡ skipped

nothing_here : (bytes : List ℕ) → SaysNothing bytes → IsBody true bytes
nothing_here [] h = grind arith
nothing_here (b ∷ []) h = grind (arith, nat_tests)
nothing_here (b ∷ c ∷ more) h = grind (arith, nat_tests)

digit_here : (b : ℕ) (bs : List ℕ) → is_digit 10 b ≡ true → IsBody false (b ∷ bs)
digit_here b [] h = grind (arith, digit_ends b)
digit_here b (c ∷ more) h = grind (arith, digit_ends b)

entry_here : (bytes digits after : List ℕ) → bytes ≡ digits ++ after → 1 ≤ length digits → Passes (is_digit 10) digits → IsBody false bytes
entry_here bytes [] after parts some h = absurd (omega arith)
entry_here bytes (b ∷ bs) after parts some h = subst (IsBody false) (sym parts) (digit_here b (bs ++ after) h.0)

skipped_sound : (line : List ℕ) → line_kind line ≡ Skipped → IsSkippedLine line
skipped_sound line h = record {
  blanks = run_of is_blank line;
  after = past_blanks line;
  parts = run_parts is_blank line;
  are_blanks = run_passes is_blank line;
  nothing = nothing_sound (past_blanks line) (grind arith);
}

entry_line_sound : (line : List ℕ) (pointer value : ℕ) → line_kind line ≡ Entry pointer value → IsEntryLine line pointer value
entry_line_sound line pointer value h = record {
  blanks = run_of is_blank line;
  after = past_blanks line;
  parts = run_parts is_blank line;
  are_blanks = run_passes is_blank line;
  entry = entry_sound (past_blanks line) (pointer, value) (grind arith);
}

skipped_complete : (line : List ℕ) → IsSkippedLine line → line_kind line ≡ Skipped
skipped_complete line h =
    let here = nothing_here h.after h.nothing in
    let rest : past_blanks line ≡ h.after = rw h.parts (after_run-append is_blank h.blanks h.after h.are_blanks here.ends) in
    rw (rest, here.says) refl

entry_line_complete : (line : List ℕ) (pointer value : ℕ) → IsEntryLine line pointer value → line_kind line ≡ Entry pointer value
entry_line_complete line pointer value h =
    let entry = h.entry in
    let here = entry_here h.after entry.digits entry.after entry.parts entry.number.some entry.number.are_digits in
    let rest : past_blanks line ≡ h.after = rw h.parts (after_run-append is_blank h.blanks h.after h.are_blanks here.ends) in
    rw (rest, here.says, entry_complete h.after pointer value entry) refl

pub kind_by_grammar : (line : List ℕ) → IsOfKind line (line_kind line)
kind_by_grammar line = record {
  skipped = (skipped_sound line, skipped_complete line);
  entry = λ pointer value. (entry_line_sound line pointer value, entry_line_complete line pointer value);
}
