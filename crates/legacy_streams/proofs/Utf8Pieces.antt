-- The text of bytes in UTF-8 that come in pieces.
use Rattle.std.proofs.Common.{◌≡◌, ◌≢◌, ◌⊎◌, ◌∙◌, ℕ, zero, suc, ◌+◌, ◌-◌, ◌/◌, ◌%◌, ◌<◌, ◌≤◌, true, false, List, [], ◌∷◌, ◌++◌, length, take, drop, Option}
use Rattle.std.proofs.Common.{Some, None, IsUtf8, encode_utf8_all, refl, sym, ap, subst, arith, inl, inr, ⊎_elim, append_assoc, append-nil}
use Rattle.std.proofs.{Common.{length-append, length-drop, take_all, drop_at, take-add, zero-add}, lemmas.Bool.{cases_Bool, cases_lt, and_parts}}
use Rattle.std.proofs.{lemmas.Bool.Decides.nat_tests, Math.Seq.{take-append-add, drop-append-add, take-append_seam, drop-append_seam}, lemmas.List.take_at}
use Rattle.std.proofs.{lemmas.List.{take-append-le, drop-append-le, take-take, length-take, drop_all}, lemmas.Str.{IsUtf8-from_is_utf8, is_utf8-from_IsUtf8}}
use Rattle.std.proofs.lemmas.Str.{IsUtf8-append, IsUtf8-drop, IsCharBoundary-from_take, utf8_lossy-IsUtf8, utf8_lossy_step, utf8_valid_len-IsValidUpTo}
use Rattle.std.proofs.lemmas.Str.{utf8_valid_len-IsUtf8, utf8_lossy_empty, chars-append, chars-nil, IsUtf8-encode, length-encode, len_utf8_bounds}
use Rattle.std.specs.{Char.encode_utf8, Int.is_in_range, Str.{IsValidUpTo, is_utf8, chars}, Str.Lossy.{valid_len_up_to, utf8_valid_len, second_byte_min}}
use Rattle.std.specs.Str.Lossy.{second_byte_max, utf8_error_len, utf8_invalid_len, utf8_lossy, replacement_bytes}
use lib.Utf8.{scalar, scalars, scalar_cases}
use Rattle.legacy_streams.specs.Utf8Texts.{lossy_text, IsChunk}

-- ---- the longest text at the front

longest_front : (bs : List ℕ) (m k : ℕ) → valid_len_up_to bs m < k → k ≤ m → is_utf8 (take k bs) ≡ false
longest_front bs zero k above within = absurd (omega arith)
longest_front bs (suc m) k above within =
    let last : k ≡ suc m → is_utf8 (take k bs) ≡ is_utf8 (take (suc m) bs) = λ e. ap (λ n. is_utf8 (take n bs)) e in
    grind (arith, last, longest_front bs m k)

front_utf8 : (bs : List ℕ) (m : ℕ) → is_utf8 (take (valid_len_up_to bs m) bs) ≡ true
front_utf8 bs zero = is_utf8-from_IsUtf8 [] ([], (refl, refl))
front_utf8 bs (suc m) = grind (arith, front_utf8 bs m)

-- bytes are UTF-8, or stop being it
pub utf8_cases : (bs : List ℕ) → IsUtf8 bs ⊎ IsValidUpTo bs (utf8_valid_len bs)
unfolding utf8_valid_len
utf8_cases bs =
    let front = front_utf8 bs (length bs) in
    elim (cases_Bool (is_utf8 bs)) [
      | inl h ↦ inl (IsUtf8-from_is_utf8 bs h)
      | inr h ↦ inr record {
        short = grind (arith, take_all, front);
        front = IsUtf8-from_is_utf8 _ front;
        longest = λ m above u. let is = is_utf8-from_IsUtf8 _ u in grind (arith, longest_front bs (length bs) m, take_all);
      }
    ]

utf8_back : (text more : List ℕ) → IsUtf8 text → IsUtf8 (text ++ more) → IsUtf8 more
utf8_back text more u w =
    let front : IsUtf8 (take (length text) (text ++ more)) = rw (take-append_seam text more) u in
    let at = IsCharBoundary-from_take (text ++ more) (length text) w (omega (arith, length-append text more)) front in
    rw (drop-append_seam text more) at (IsUtf8-drop (text ++ more) (length text) w at)

-- text at the front stays
lossy_past_text : (text more : List ℕ) → IsUtf8 text → utf8_lossy (text ++ more) ≡ text ++ utf8_lossy more
lossy_past_text text more u = elim (utf8_cases more) [
  | inl w ↦ rw (utf8_lossy-IsUtf8 (text ++ more) (IsUtf8-append text more u w), utf8_lossy-IsUtf8 more w) refl
  | inr valid ↦
      let bs = text ++ more in
      let n = utf8_valid_len more in
      let short = valid.short in
      let total = length-append text more in
      let is : IsValidUpTo bs (length text + n) = record {
        short = omega (arith, total);
        front = rw (take-append-add text more n) (IsUtf8-append text (take n more) u valid.front);
        longest = λ m above w.
            let k = m - length text in
            let at : m ≡ length text + k = omega arith in
            valid.longest k (omega arith) (utf8_back text (take k more) u (rw (at, take-append-add text more k) at w));
      } in
      let len = utf8_valid_len-IsValidUpTo bs (length text + n) is in
      let k = utf8_invalid_len (drop n more) in
      let sum : length text + n + k ≡ length text + (n + k) = omega arith in
      let step = rw (len, take-append-add text more n, drop-append-add text more n, sum, drop-append-add text more (n + k)) at
      (utf8_lossy_step bs (omega (arith, len))) in
      rw (step, utf8_lossy_step more (omega arith)) (append_assoc text (take n more) _)
]

-- ---- text

pub text_past : (text more : List ℕ) → IsUtf8 text → lossy_text (text ++ more) ≡ chars text ++ lossy_text more
unfolding lossy_text
text_past text more u = ap chars (lossy_past_text text more u) ∙ chars-append text (utf8_lossy more) u

replacement_utf8 : IsUtf8 replacement_bytes
unfolding encode_utf8
replacement_utf8 = (0xFFFD ∷ [], (refl, refl))

pub replacement_chars : chars replacement_bytes ≡ 0xFFFD ∷ []
unfolding chars
replacement_chars = refl

-- ---- a sequence that is malformed whatever follows

-- the beginning of a character is cut, and is not malformed
cut_front : (n a b d : ℕ) (rest : List ℕ) → is_in_range 0xC2 0xF4 a ≡ true → (1 < n → is_in_range (second_byte_min a) (second_byte_max a) b ≡ true)
    → (2 < n → is_in_range 0x80 0xBF d ≡ true) → 0 < n → n < 4 → utf8_error_len (take n (a ∷ b ∷ d ∷ rest)) ≡ None
unfolding utf8_error_len
cut_front zero a b d rest h k l some less = absurd (omega arith)
cut_front (suc zero) a b d rest h k l some less = rw h refl
cut_front (suc (suc zero)) a b d rest h k l some less = rw (h, k (omega arith)) refl
cut_front (suc (suc (suc zero))) a b d rest h k l some less = rw (h, k (omega arith), l (omega arith)) refl
cut_front (suc (suc (suc (suc n)))) a b d rest h k l some less = absurd (omega arith)

width_one : (c : ℕ) → c < 128 → length (encode_utf8 c) ≡ 1
unfolding encode_utf8
width_one c h = grind (arith, nat_tests)

width_two : (c : ℕ) → 128 ≤ c → c < 2048 → encode_utf8 c ≡ (192 + c / 64) ∷ (128 + c % 64) ∷ []
unfolding encode_utf8
width_two c h l = grind (arith, nat_tests)

width_three : (c : ℕ) → 2048 ≤ c → c < 65536 → encode_utf8 c ≡ (224 + c / 4096) ∷ (128 + (c / 64) % 64) ∷ (128 + c % 64) ∷ []
unfolding encode_utf8
width_three c h l = grind (arith, nat_tests)

width_four : (c : ℕ) → 65536 ≤ c → encode_utf8 c ≡ (240 + c / 262144) ∷ (128 + (c / 4096) % 64) ∷ (128 + (c / 64) % 64) ∷ (128 + c % 64) ∷ []
unfolding encode_utf8
width_four c h = grind (arith, nat_tests)

cut_character : (c n : ℕ) → scalar c ≡ true → 0 < n → n < length (encode_utf8 c) → utf8_error_len (take n (encode_utf8 c)) ≡ None
cut_character c n is some less =
    let range = scalar_cases c is in
    elim (cases_lt c 128) [
      | inl one ↦ absurd (omega (arith, width_one c one))
      | inr more ↦ elim (cases_lt c 2048) [
        | inl two ↦
            let e = width_two c more two in
            let n_is : n ≡ 1 = omega (arith, ap length e) in
            rw (e, n_is) (cut_front 1 (192 + c / 64) 0 0 [] (grind (arith, nat_tests)) (λ k. absurd (omega arith)) (λ k. absurd (omega arith))
            (omega arith) (omega arith))
        | inr most ↦ elim (cases_lt c 65536) [
          | inl three ↦
              let e = width_three c most three in
              rw e (cut_front n (224 + c / 4096) (128 + (c / 64) % 64) (128 + c % 64) [] (grind (arith, nat_tests)) (λ _. grind (arith, nat_tests))
              (λ k. absurd (omega (arith, ap length e))) some (omega (arith, ap length e)))
          | inr four ↦
              let e = width_four c four in
              rw e (cut_front n (240 + c / 262144) (128 + (c / 4096) % 64) (128 + (c / 64) % 64) ((128 + c % 64) ∷ []) (grind (arith, nat_tests))
              (λ _. grind (arith, nat_tests)) (λ _. grind (arith, nat_tests)) some (omega (arith, ap length e)))
        ]
      ]
    ]

-- a malformed sequence remains one, whatever follows
error_len_longer : (malformed more : List ℕ) (k : ℕ) → utf8_error_len malformed ≡ Some k → utf8_error_len (malformed ++ more) ≡ Some k
unfolding utf8_error_len
error_len_longer [] more k e = cc
error_len_longer (a ∷ []) more k e = grind (arith, nat_tests)
error_len_longer (a ∷ b ∷ []) more k e = grind (arith, nat_tests)
error_len_longer (a ∷ b ∷ d ∷ []) more k e = grind (arith, nat_tests)
error_len_longer (a ∷ b ∷ d ∷ c ∷ malformed) more k e = grind (arith, nat_tests)

-- no text begins with a malformed sequence
malformed_longer : (malformed more : List ℕ) (k : ℕ) → IsValidUpTo malformed 0 → utf8_error_len malformed ≡ Some k → IsValidUpTo (malformed ++ more) 0
malformed_longer malformed more k valid e =
    let some = valid.short in
    record { short = omega (arith, length-append malformed more); front = ([], (refl, refl)); longest = λ m above w. none m above w.0 w.1.0 w.1.1 }
  where
    none : (m : ℕ) → 0 < m → (cs : List ℕ) → scalars cs ≡ true → encode_utf8_all cs ≡ take m (malformed ++ more) → ⊥
    none m above [] all spells =
        let some = valid.short in
        let long = ap length spells in
        omega (arith, long, length-take m (malformed ++ more), length-append malformed more)
    none m above (c ∷ cs) all spells =
        let first = encode_utf8 c in
        let width = length first in
        let both : (scalar c ≡ true) × (scalars cs ≡ true) = and_parts (scalar c) (scalars cs) all in
        let pos : 0 < width = (omega (arith, (len_utf8_bounds c).0, length-encode c)) in
        let total = ap length spells ∙ length-take m (malformed ++ more) in
        let within : width ≤ m = omega (arith, total, length-append first (encode_utf8_all cs)) in
        let is : take width (malformed ++ more) ≡ first =
        sym (take-take width m (malformed ++ more) within) ∙ ap (take width) (sym spells) ∙ take_at first (encode_utf8_all cs) _ refl in
        ⊎_elim
        (λ (cut : length malformed < width).
        let front : malformed ≡ take (length malformed) first =
        sym (take_at malformed more _ refl) ∙ sym (take-take (length malformed) width (malformed ++ more) (omega arith)) ∙ ap (take (length malformed)) is in
        let some = valid.short in
        let none = ap utf8_error_len front ∙ cut_character c (length malformed) both.0 some cut in
        let no = sym none ∙ e in cc)
        (λ (fits : width ≤ length malformed).
        let front : take width malformed ≡ first = sym (take-append-le width malformed more fits) ∙ is in
        valid.longest width pos (subst IsUtf8 (sym front) (IsUtf8-encode c both.0)))
        (cases_lt (length malformed) width)

-- no text begins after the longest text
pub after_text : (bs : List ℕ) (n : ℕ) → IsValidUpTo bs n → IsValidUpTo (drop n bs) 0
after_text bs n valid = record {
  short = omega (arith, valid.short, length-drop n bs);
  front = ([], (refl, refl));
  longest = λ m above w. valid.longest (n + m) (omega arith) (rw (take-add n m bs) (IsUtf8-append (take n bs) (take m (drop n bs)) valid.front w));
}

-- bytes that begin with a malformed sequence, or that the end cuts
lossy_past_none : (bs : List ℕ) → IsValidUpTo bs 0 → utf8_lossy bs ≡ replacement_bytes ++ utf8_lossy (drop (utf8_invalid_len bs) bs)
lossy_past_none bs valid =
    let len = utf8_valid_len-IsValidUpTo bs 0 valid in
    rw (len, zero-add (utf8_invalid_len bs)) at (utf8_lossy_step bs (omega (arith, valid.short, len)))

text_past_malformed : (malformed more : List ℕ) (k : ℕ) → IsValidUpTo malformed 0 → utf8_error_len malformed ≡ Some k → k ≤ length malformed →
    lossy_text (malformed ++ more) ≡ 0xFFFD ∷ lossy_text (drop k malformed ++ more)
unfolding lossy_text
text_past_malformed malformed more k valid e within =
    grind (arith, error_len_longer, drop-append-le, lossy_past_none, malformed_longer, chars-append replacement_bytes, replacement_utf8, replacement_chars)

-- what the end of the input leaves of a character is malformed
pub text_of_cut : (malformed : List ℕ) → IsValidUpTo malformed 0 → utf8_error_len malformed ≡ None → lossy_text malformed ≡ 0xFFFD ∷ []
unfolding lossy_text
text_of_cut malformed valid e = grind (arith, drop_all, utf8_lossy_empty, lossy_past_none, append-nil, replacement_chars)

pub text_of_none : lossy_text [] ≡ []
unfolding lossy_text
text_of_none = ap chars (utf8_lossy_empty [] refl) ∙ chars-nil

-- ---- a chunk

module _ {rest valid invalid : List ℕ} (k : IsChunk rest valid invalid) where
  -- it is not malformed yet if the end cuts it
  pub cut_chunk : (more : List ℕ) → lossy_text (rest ++ more) ≡ chars valid ++ lossy_text ((invalid ++ k.later) ++ more)
  cut_chunk more = grind (arith, append_assoc, text_past)

  module _ (some : 0 < length invalid) where
    back : drop (utf8_valid_len rest) rest ≡ invalid ++ k.later
    back = ap (drop (utf8_valid_len rest)) k.parts ∙ drop_at valid (invalid ++ k.later) _ k.valid_len

    pub malformed_back : IsValidUpTo (invalid ++ k.later) 0
    malformed_back = ⊎_elim
        (λ w. let whole = utf8_valid_len-IsUtf8 rest w in
        let len = k.valid_len in
        let total = ap length k.parts ∙ length-append valid (invalid ++ k.later) in absurd (omega (arith, whole, total, length-append invalid k.later)))
        (λ v. subst (λ l. IsValidUpTo l 0) back (after_text rest (utf8_valid_len rest) v))
        (utf8_cases rest)

    malformed_is : (o : Option ℕ) → utf8_error_len (invalid ++ k.later) ≡ o → (0 < length k.later) ⊎ (o ≢ None)
        → utf8_error_len (invalid ++ k.later) ≡ Some (length invalid)
    malformed_is o h h1 = grind (arith, back, length-append)

    pub malformed_chunk : (0 < length k.later) ⊎ (utf8_error_len (invalid ++ k.later) ≢ None) → (more : List ℕ)
        → lossy_text (rest ++ more) ≡ (chars valid ++ 0xFFFD ∷ []) ++ lossy_text (k.later ++ more)
    malformed_chunk h more =
        let e = malformed_is (utf8_error_len (invalid ++ k.later)) refl h in
        let past = text_past_malformed (invalid ++ k.later) more (length invalid) malformed_back e (omega (arith, length-append invalid k.later)) in
        rw (cut_chunk more, past, drop_at invalid k.later _ refl) (sym (append_assoc (chars valid) (0xFFFD ∷ []) (lossy_text (k.later ++ more))))
