-- The length of the front of Latin-1 bytes.
use Rattle.std.proofs.Common.{◌≡◌, ◌∙◌, ℕ, ◌<◌, ◌≤◌, List, length, get_or, take, true, false, sym, arith, get_or-take, length-take-le, length-drop, IsAscii}
use Rattle.std.proofs.lemmas.{Bool.Decides.nat_tests, List.{Folds.length-prefix_len, Sums.prefix_len_is}}
use Rattle.{legacy_text.proofs.Ascii.{ascii_next, ascii_front, no_past}, legacy_base.specs.Latin1.{is_latin1_byte, latin1_front}}

pub latin1_front-length : (table bytes : List ℕ) (n : ℕ) → n ≤ length bytes →
    ((k : ℕ) → k < n → is_latin1_byte table (get_or bytes k 0) ≡ true) → (n < length bytes → is_latin1_byte table (get_or bytes n 0) ≡ false) →
    n ≡ length (latin1_front table bytes)
unfolding latin1_front
latin1_front-length table bytes n h pass stop =
    sym (length-prefix_len (is_latin1_byte table) bytes ∙ prefix_len_is (is_latin1_byte table) bytes n 0 h pass stop)

-- a front of ASCII bytes is Latin-1
pub latin1-ascii : (table bytes : List ℕ) (n : ℕ) → IsAscii (take n bytes) → (k : ℕ) → k < n → is_latin1_byte table (get_or bytes k 0) ≡ true
latin1-ascii table bytes n h k l =
    let small : get_or bytes k 0 < 128 = rw (← get_or-take n bytes k 0 l) (h k) in grind (arith, nat_tests)

-- the lemmas for the functions that look for such bytes
pub ruleset steps = (ascii_next, ascii_front, no_past, length-take-le, length-drop, latin1-ascii)
