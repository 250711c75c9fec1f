-- Laws of the text that is written for the events of an encoder, and of how a reference is made.
use Rattle.std.proofs.Common.{◌≡◌, ◌∙◌, ℕ, ◌+◌, ◌-◌, ◌/◌, ◌%◌, ◌^◌, ◌≤◌, ◌<◌, List, [], ◌∷◌, ◌++◌, length, drop, take, set, map, decimal, refl, sym, ap}
use Rattle.std.proofs.{Common.{arith, append_assoc, length-append, length-set, false, ◌||◌}, Math.ListN.drop_of_length-le, Math.Seq.take-append-add}
use Rattle.std.proofs.{lemmas.Slice.take-put_mid, lemmas.Fmt.{decimal_step, decimal_digit, length-decimal-le}, lemmas.List.{drop-set, take-take}}
use Rattle.std.proofs.{lemmas.List.length-take-le, lemmas.List.Concat.flat_map-append, lemmas.List.Folds.list_any-append}
use borrow.Rule.Slice.PartMut.{put_mid}
use Rattle.legacy_base.specs.{declared.results.EncodeEvent.EncodeEvent, declared.results.EncodeEvent.TheVariants.Byte}
use Rattle.legacy_codecs.specs.References.{event_bytes, referenced_bytes, is_unmappable, has_unmappable}

-- ---- the text of events

pub referenced-append : (xs ys : List EncodeEvent) → referenced_bytes (xs ++ ys) ≡ referenced_bytes xs ++ referenced_bytes ys
referenced-append xs ys = flat_map-append event_bytes xs ys

-- bytes are written unchanged
pub referenced-of_bytes : (bs : List ℕ) → referenced_bytes (map Byte bs) ≡ bs
referenced-of_bytes [] = refl
referenced-of_bytes (b ∷ bs) = ap (λ (l : List ℕ). b ∷ l) (referenced-of_bytes bs)

pub has_unmappable-append : (xs ys : List EncodeEvent) → has_unmappable (xs ++ ys) ≡ (has_unmappable xs || has_unmappable ys)
has_unmappable-append xs ys = list_any-append is_unmappable xs ys

-- a list of bytes has no unmappable scalar
pub has_unmappable-of_bytes : (bs : List ℕ) → has_unmappable (map Byte bs) ≡ false
has_unmappable-of_bytes [] = refl
has_unmappable-of_bytes (b ∷ bs) = has_unmappable-of_bytes bs

-- ---- how long a number is

pub length-decimal_seven : (n : ℕ) → n < 10 ^ 7 → length (decimal n) ≤ 7
length-decimal_seven n h = length-decimal-le 7 n (omega arith) h (omega arith)

pub length-decimal_one : (n : ℕ) → n < 10 → length (decimal n) ≡ 1
length-decimal_one n h = ap length (decimal_digit n h)

pub length-decimal_more : (n : ℕ) → 10 ≤ n → n < 2 ^ 64 → length (decimal n) ≡ length (decimal (n / 10)) + 1
length-decimal_more n h k = ap length (decimal_step n h k) ∙ length-append (decimal (n / 10)) ((48 + n % 10) ∷ [])

-- the number of digits of a number
pub ruleset decimal_lengths = (length-decimal_one, length-decimal_more, length-decimal_seven)

-- ---- how a number is written, from its last digit

-- one digit more is written before those that are written already
pub digit_before : (text : List ℕ) (place rest : ℕ) (all : List ℕ) → 10 ≤ rest → rest < 2 ^ 64 → 1 ≤ place → place ≤ length text →
    decimal rest ++ drop place text ≡ all → decimal (rest / 10) ++ drop (place - 1) (set text (place - 1) (48 + rest % 10)) ≡ all
digit_before text place rest all h k one within e = grind (arith, drop-set, append_assoc, decimal, decimal_step)

-- the first digit is written before the others
pub first_digit : (text : List ℕ) (place rest : ℕ) (all : List ℕ) → rest < 10 → 1 ≤ place → place ≤ length text →
    decimal rest ++ drop place text ≡ all → drop (place - 1) (set text (place - 1) (48 + rest)) ≡ all
first_digit text place rest all h one within e = grind (arith, drop-set, decimal_digit)

-- the two bytes before the digits
pub marks_before : (text : List ℕ) (place : ℕ) → 2 ≤ place → place ≤ length text →
    drop (place - 2) (set (set text (place - 1) 35) (place - 2) 38) ≡ 38 ∷ 35 ∷ drop place text
marks_before text place two within =
    let long = length-set text (place - 1) 35 in
    grind (arith, drop-set (set text (place - 1) 35) (place - 2) 38, drop-set text (place - 1) 35)

-- the byte after the digits
pub mark_after : (text : List ℕ) → length text ≡ 10 → drop 9 (set text 9 59) ≡ 59 ∷ []
mark_after text long =
    let short : length text ≤ 10 = omega arith in
    drop-set text 9 59 (omega arith) ∙ ap (λ l. 59 ∷ l) (drop_of_length-le text short)

-- ---- a part of an output

-- what an output holds up to the last byte written into its part from `a` on
pub front_of_part : (a k r : ℕ) (xs ys : List ℕ) → a ≤ length xs → r ≤ length ys → take (a + r) (put_mid a k xs ys) ≡ take a xs ++ take r ys
front_of_part a k r xs ys within le =
    let all : take (a + length ys) (put_mid a k xs ys) ≡ take a xs ++ ys = take-put_mid a k xs ys (a + length ys) refl within in
    sym (take-take (a + r) (a + length ys) (put_mid a k xs ys) (omega arith)) ∙ ap (take (a + r)) all
    ∙ rw (length-take-le a xs within) at (take-append-add (take a xs) ys r)
