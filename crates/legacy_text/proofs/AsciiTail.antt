-- A block that begins before the end of what was copied.
use Rattle.std.proofs.Common.{◌≡◌, ℕ, ◌+◌, ◌-◌, ◌≤◌, ◌<◌, List, ◌++◌, length, take, drop, get_or, arith, IsAscii}
use Rattle.std.proofs.lemmas.{Bool.Decides.nat_tests, Grind.same_number_lists, List.{length-take-le, take_rest, take-take, get_or-take}}
use Rattle.legacy_text.proofs.Ascii.{ascii_front, ascii_before, ascii_after, stored_before, stored_next, none_past, mask_from}

-- after n bytes were copied, a block from place m on was stored, where m is at most n, and has r bytes of ASCII at its front
pub ascii_back : (bytes : List ℕ) (m n r : ℕ) → m ≤ n → IsAscii (take n bytes) → IsAscii (take r (take (length bytes - m) (drop m bytes)))
    → IsAscii (take (m + r) bytes)
ascii_back bytes m n r le all more = ascii_after bytes m r (ascii_before bytes n m le all) (rw (take_rest bytes m) at more)

pub stored_back : (old mid new bytes : List ℕ) (at m n r : ℕ) → m ≤ n → at ≤ length old → n ≤ length bytes
    → take (at + n) mid ≡ take at old ++ take n bytes
    → take (at + m + r) new ≡ take (at + m) mid ++ take r (take (length bytes - m) (drop m bytes))
    → take (at + (m + r)) new ≡ take at old ++ take (m + r) bytes
stored_back old mid new bytes at m n r le within long e f =
    stored_next mid new (take at old) bytes at m r (stored_before old mid bytes at n m le within e) (rw (take_rest bytes m) at f)

-- ---- the front of a short vector

pub all_front : (n : ℕ) (bytes : List ℕ) → n ≤ 64 → n ≤ length bytes → mask_from 128 n (take n bytes) ≡ 0 → IsAscii (take n bytes)
all_front n bytes few long none =
    ascii_front bytes n (λ k h. rw (get_or-take n bytes k 0 h) at (none_past n (take n bytes) few (length-take-le n bytes long) none k))

-- units that are the bytes of a block at its ASCII front
pub units_front_of : (n : ℕ) (block units : List ℕ) (r : ℕ) → n ≤ length units → length block ≡ n → r ≤ n
    → ((k : ℕ) → k < n → get_or block k 0 < 128 → get_or block k 0 ≡ get_or units k 0) → IsAscii (take r block) → take r block ≡ take r units
units_front_of n block units r within long le same ascii = grind (arith, nat_tests, same_number_lists, length-take-le, get_or-take)

pub ruleset tail_steps = (ascii_back, stored_back)
