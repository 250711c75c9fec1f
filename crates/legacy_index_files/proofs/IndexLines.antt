-- The lines of a text, by the position of its first 0A.
use Rattle.std.proofs.Common.{◌≡◌, ℕ, ◌+◌, ◌-◌, ◌<◌, ◌≤◌, Bool, not, List, [], ◌∷◌, length, take, drop, Some, None, nat_eq}
use Rattle.std.proofs.{Common.{add-one, one-add, arith}, lemmas.Grind.common_steps, lemmas.Bool.Decides.nat_tests}
use Rattle.std.specs.List.{position, prefix_len}
use Rattle.legacy_index_files.specs.IndexLine.{lines}

abbrev pub is_end : ℕ → Bool
is_end b = nat_eq b 0x0A

abbrev pub end_of : List ℕ → ℕ
end_of text = prefix_len (λ b. not (is_end b)) text

-- the first line ends at the first 0A
pub lines-at_end : (text : List ℕ) → end_of text < length text → lines text ≡ take (end_of text) text ∷ lines (drop (end_of text + 1) text)
lines-at_end [] h = absurd (omega arith)
lines-at_end (b ∷ bs) h = grind (arith, lines-at_end bs, one-add, add-one)

-- a text without 0A is one line
pub lines-no_end : (text : List ℕ) → 0 < length text → length text ≤ end_of text → lines text ≡ text ∷ []
lines-no_end [] h e = absurd (omega arith)
lines-no_end (b ∷ []) h e = grind arith
lines-no_end (b ∷ c ∷ bs) h e = grind (arith, lines-no_end (c ∷ bs))

-- the first line and the rest of a text, split at the first 0A
pub lines-split : (text : List ℕ) (end : ℕ) → Some end ≡ position is_end text
    → lines text ≡ take end text ∷ lines (take (length text - (end + 1)) (drop (end + 1) text))
lines-split text end found =
    let at : (end ≡ end_of text) × (end_of text < length text) = grind (arith, nat_tests) in
    let whole : take (length text - (end + 1)) (drop (end + 1) text) ≡ drop (end + 1) text = grind (arith, common_steps) in
    rw (whole, at.0) (lines-at_end text at.1)

pub lines-whole : (text : List ℕ) → 0 < length text → None ≡ position is_end text → lines text ≡ text ∷ []
lines-whole text some none = lines-no_end text some (grind (arith, nat_tests))
