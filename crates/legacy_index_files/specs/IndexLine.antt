-- The lines of an index file of the WHATWG Encoding Standard ("Indexes"), as lists of bytes, and the kind of each.
use Rattle.std.specs.Prelude.{ℕ, ◌+◌, ◌*◌, Bool, true, ◌&&◌, ◌||◌, List, [], ◌∷◌, Option, Some, None, nat_le, nat_lt, ◌==◌, if◌then◌else◌, length}
use Rattle.std.specs.Char.{digit_value}
use Rattle.legacy_index_files.specs.declared.index_line.LineKind.{LineKind}
use Rattle.legacy_index_files.specs.declared.index_line.LineKind.TheVariants.{Skipped, Entry, Malformed}

-- ---- the lines of a text

-- puts a byte at the beginning of the first line
abbrev pub before_first_line : ℕ → List (List ℕ) → List (List ℕ)
before_first_line b [] = (b ∷ []) ∷ []
before_first_line b (line ∷ more) = (b ∷ line) ∷ more

-- the lines of a text: each ends with a byte 0A, which is omitted here and which the last line may lack
abbrev pub lines : List ℕ → List (List ℕ)
lines [] = []
lines (b ∷ bs) = if b == 0x0A then [] ∷ lines bs else before_first_line b (lines bs)

-- ---- runs of bytes

-- the longest beginning whose bytes pass a test
abbrev pub run_of : (ℕ → Bool) → List ℕ → List ℕ
run_of test [] = []
run_of test (b ∷ bs) = if test b then b ∷ run_of test bs else []

-- the bytes after the longest beginning whose bytes pass a test
abbrev pub after_run : (ℕ → Bool) → List ℕ → List ℕ
after_run test [] = []
after_run test (b ∷ bs) = if test b then after_run test bs else b ∷ bs

-- ---- blanks

-- a blank is a space or a tab
abbrev pub is_blank : ℕ → Bool
is_blank b = b == 0x20 || b == 0x09

-- the bytes after the blanks at the beginning
abbrev pub past_blanks : List ℕ → List ℕ
past_blanks bs = after_run is_blank bs

-- after its blanks, a skipped line is empty, a single carriage return, or a comment
abbrev pub says_nothing : List ℕ → Bool
says_nothing [] = true
says_nothing (b ∷ []) = b == 0x0D || b == 0x23
says_nothing (b ∷ c ∷ more) = b == 0x23

-- ---- numbers

-- the byte is a digit of a radix; letters of either case are the digits 10 to 35
abbrev pub is_digit : ℕ → ℕ → Bool
is_digit radix b = nat_lt (digit_value b) radix

-- the digits of a radix at the beginning
abbrev pub digits_at : ℕ → List ℕ → List ℕ
digits_at radix bs = run_of (is_digit radix) bs

-- the bytes after the digits of a radix at the beginning
abbrev pub past_digits : ℕ → List ℕ → List ℕ
past_digits radix bs = after_run (is_digit radix) bs

-- the number of digits that follow the digits of n
abbrev pub number_after : ℕ → ℕ → List ℕ → ℕ
number_after radix n [] = n
number_after radix n (b ∷ bs) = number_after radix (n * radix + digit_value b) bs

-- the number of 1 to 6 digits at the beginning, with the bytes after them; none if there are fewer or more digits
abbrev pub number_at : ℕ → List ℕ → Option (ℕ × List ℕ)
number_at radix bs =
    if nat_le 1 (length (digits_at radix bs)) && nat_le (length (digits_at radix bs)) 6
    then Some (number_after radix 0 (digits_at radix bs), past_digits radix bs)
    else None

-- ---- entries

-- the bytes after `0x`, if the list begins with it
abbrev pub past_mark : List ℕ → Option (List ℕ)
past_mark (b ∷ c ∷ more) = if b == 0x30 && c == 0x78 then Some more else None
past_mark _ = None

-- the bytes after at least one blank and `0x`, if the list begins with these
abbrev pub value_digits : List ℕ → Option (List ℕ)
value_digits [] = None
value_digits (b ∷ bs) = if is_blank b then past_mark (past_blanks bs) else None

-- the pointer, with the value of the 1 to 6 hexadecimal digits at the beginning
abbrev pub entry_with : ℕ → List ℕ → Option (ℕ × ℕ)
entry_with pointer digits = elim (number_at 16 digits) [ None ↦ None | Some value ↦ Some (pointer, value.0) ]

-- the pointer, with the value after at least one blank and `0x`
abbrev pub entry_after : ℕ × List ℕ → Option (ℕ × ℕ)
entry_after pointer = elim (value_digits pointer.1) [ None ↦ None | Some digits ↦ entry_with pointer.0 digits ]

-- the entry at the beginning: 1 to 6 decimal digits, at least one blank, `0x`, and 1 to 6 hexadecimal digits
abbrev pub entry_at : List ℕ → Option (ℕ × ℕ)
entry_at body = elim (number_at 10 body) [ None ↦ None | Some pointer ↦ entry_after pointer ]

-- the kind of a line by its entry, if any
abbrev pub kind_of_entry : Option (ℕ × ℕ) → LineKind
kind_of_entry None = Malformed
kind_of_entry (Some entry) = Entry entry.0 entry.1

-- the kind of a line
abbrev pub line_kind : List ℕ → LineKind
line_kind line =
    if says_nothing (past_blanks line) then Skipped else kind_of_entry (entry_at (past_blanks line))
