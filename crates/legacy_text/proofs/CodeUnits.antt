-- The bytes of a scalar, by its range.
use Rattle.std.proofs.Common.{◌≡◌, ◌∙◌, ℕ, ◌+◌, ◌-◌, ◌/◌, ◌%◌, ◌≤◌, ◌<◌, List, [], ◌∷◌, ◌++◌, length, refl, ap, arith, append_assoc, length-append, get_or, suc}
use Rattle.std.{proofs.lemmas.{List.Concat.flat_map-append, Bool.{lt-ltb, le-ltb, Decides.nat_tests}, Str.encode_ascii}, specs.Char.Escape.encode_utf16}
use lib.Utf8.{encode}
use Rattle.legacy_text.specs.EncodingForm.{Utf16, EncodingForm, code_units, all_code_units, unit_count, total_unit_count, Utf8, bmp_need, wide_need}

pub encode_2 : (c : ℕ) → 128 ≤ c → c < 2048 → encode c ≡ (192 + c / 64) ∷ (128 + c % 64) ∷ []
unfolding encode
encode_2 c a b = rw (le-ltb c 128 a, lt-ltb c 2048 b) refl

pub encode_3 : (c : ℕ) → 2048 ≤ c → c < 65536 → encode c ≡ (224 + c / 4096) ∷ (128 + c / 64 % 64) ∷ (128 + c % 64) ∷ []
unfolding encode
encode_3 c a b = let a' : 128 ≤ c = omega arith in rw (le-ltb c 128 a', le-ltb c 2048 a, lt-ltb c 65536 b) refl

pub encode_4 : (c : ℕ) → 65536 ≤ c → encode c ≡ (240 + c / 262144) ∷ (128 + c / 4096 % 64) ∷ (128 + c / 64 % 64) ∷ (128 + c % 64) ∷ []
unfolding encode
encode_4 c a = let b : 128 ≤ c = omega arith in let d : 2048 ≤ c = omega arith in rw (le-ltb c 128 b, le-ltb c 2048 d, le-ltb c 65536 a) refl

pub some_units : (c : ℕ) → 0 < unit_count Utf8 c
some_units c = grind (arith, nat_tests, encode_ascii, encode_2, encode_3, encode_4)

pub utf16_1 : (c : ℕ) → c < 65536 → encode_utf16 c ≡ c ∷ []
utf16_1 c a = rw (lt-ltb c 65536 a) refl

pub utf16_2 : (c : ℕ) → 65536 ≤ c → encode_utf16 c ≡ (55296 + (c - 65536) / 1024) ∷ (56320 + (c - 65536) % 1024) ∷ []
utf16_2 c a = rw (le-ltb c 65536 a) refl

pub ruleset encoding_utf16 = (utf16_1, utf16_2)

pub ruleset encoding = (encode_ascii, encode_2, encode_3, encode_4, append_assoc)

-- a scalar up to U+FFFF has at most the code units of the longest one
pub length-code_units-bmp : (form : EncodingForm) (c : ℕ) → c < 65536 → length (code_units form c) ≤ bmp_need form
unfolding encode
length-code_units-bmp form c h = grind (arith, nat_tests)

-- any scalar has at most the code units of the longest one
pub length-code_units-wide : (form : EncodingForm) (c : ℕ) → length (code_units form c) ≤ wide_need form
unfolding encode
length-code_units-wide form c = grind (arith, nat_tests)

-- an ASCII scalar is its own code unit
pub code_units_ascii : (form : EncodingForm) (c : ℕ) → c < 128 → code_units form c ≡ c ∷ []
code_units_ascii form c h = grind (arith, encode_ascii, utf16_1)

pub length-code_units-ascii : (form : EncodingForm) (c : ℕ) → c < 128 → length (code_units form c) ≡ 1
length-code_units-ascii form c h = ap length (code_units_ascii form c h)

-- ---- more scalars at the end

pub all_code_units-append : (form : EncodingForm) (xs ys : List ℕ) → all_code_units form (xs ++ ys) ≡ all_code_units form xs ++ all_code_units form ys
all_code_units-append form xs ys = flat_map-append (code_units form) xs ys

pub total_unit_count-append : (form : EncodingForm) (xs ys : List ℕ) → total_unit_count form (xs ++ ys) ≡ total_unit_count form xs + total_unit_count form ys
total_unit_count-append form xs ys = ap length (all_code_units-append form xs ys) ∙ length-append (all_code_units form xs) (all_code_units form ys)

-- code units of 16 bits are their own code units in UTF-16
pub own_units : (us : List ℕ) → ((k : ℕ) → k < length us → get_or us k 0 < 65536) → all_code_units Utf16 us ≡ us
own_units [] b = refl
own_units (u ∷ us) b = grind (arith, utf16_1, b 0, own_units us (λ k h. b (suc k) (omega arith)))
