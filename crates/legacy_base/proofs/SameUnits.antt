-- Equal code units come from equal scalars.
use Rattle.std.proofs.{Common.{◌≡◌, ◌∙◌, ℕ, suc, ◌≤◌, List, [], ◌∷◌, ◌++◌, length, refl, sym, ap, arith, length-append, All}, lemmas.Bool.Decides.nat_tests}
use Rattle.std.proofs.lemmas.Str.{encode_same}
use lib.Utf8.{encode}
use Rattle.std.specs.{Char.IsScalar, Char.Escape.encode_utf16}
use Rattle.legacy_text.specs.EncodingForm.{EncodingForm, code_units, all_code_units}

utf16_scalar : (c d : ℕ) (r t : List ℕ) → IsScalar c → IsScalar d → encode_utf16 c ++ r ≡ encode_utf16 d ++ t → c ≡ d
utf16_scalar c d r t p q e = grind (arith, nat_tests)

utf16_rest : (c : ℕ) (r t : List ℕ) → encode_utf16 c ++ r ≡ encode_utf16 c ++ t → r ≡ t
utf16_rest c r t e = grind (arith, nat_tests)

units_same : (form : EncodingForm) (c d : ℕ) (r t : List ℕ) → IsScalar c → IsScalar d → code_units form c ++ r ≡ code_units form d ++ t → (c ≡ d) × (r ≡ t)
units_same form c d r t h k m = grind (arith, nat_tests, encode_same, utf16_scalar, utf16_rest)

-- each scalar has at least one code unit
pub some_unit : (form : EncodingForm) (c : ℕ) → 1 ≤ length (code_units form c)
unfolding encode
some_unit form c = grind (arith, nat_tests)

none_same : (form : EncodingForm) (c : ℕ) (r : List ℕ) → [] ≡ code_units form c ++ r → ⊥
none_same form c r e =
    let n = some_unit form c in let l : length {A = ℕ} [] ≡ length (code_units form c ++ r) = ap length e in omega (arith, length-append (code_units form c) r)

pub all_units_same : (form : EncodingForm) (xs ys : List ℕ) → All IsScalar xs → All IsScalar ys → all_code_units form xs ≡ all_code_units form ys → xs ≡ ys
all_units_same form [] [] p q e = refl
all_units_same form [] (y ∷ ys) p q e = absurd (none_same form y (all_code_units form ys) e)
all_units_same form (x ∷ xs) [] p q e = absurd (none_same form x (all_code_units form xs) (sym e))
all_units_same form (x ∷ xs) (y ∷ ys) p q e =
    let h = units_same form x y (all_code_units form xs) (all_code_units form ys) (p 0 0 (omega arith)) (q 0 0 (omega arith)) e in
    let t = all_units_same form xs ys (λ k d l. p (suc k) d (omega arith)) (λ k d l. q (suc k) d (omega arith)) h.1 in
    ap (λ z. z ∷ xs) h.0 ∙ ap (λ zs. y ∷ zs) t

-- a text has at least as many code units as scalars
pub length-le-all_code_units : (form : EncodingForm) (cs : List ℕ) → length cs ≤ length (all_code_units form cs)
length-le-all_code_units form [] = omega arith
length-le-all_code_units form (c ∷ cs) =
    omega (arith, length-le-all_code_units form cs, some_unit form c, length-append (code_units form c) (all_code_units form cs))
