-- The form that four bytes begin with, and the scalars that are written for it.
use Rattle.std.proofs.Common.{◌≡◌, ℕ, zero, suc, ◌+◌, ◌<◌, ◌≤◌, List, [], ◌∷◌, ◌++◌, length, take, get_or, refl, arith, append-nil, append_assoc, length-append}
use Rattle.std.proofs.lemmas.Bool.Decides.{nat_tests}
use Rattle.std.specs.Prelude.{MatchOption, Option, Some, None}
use lib.Utf8.{encode}
use Rattle.legacy_text.{specs.{EncodingForm.{EncodingForm, code_units}, declared.destination.Destination.Ghosts}, proofs.CodeUnits.length-code_units-wide}
use Rattle.legacy_base.specs.Grammar.{Grammar}
use Rattle.legacy_decoder_engine.specs.{ReadAhead.{Yields, Writes, IsFrontForm}, declared.forms.Form.{Form, TheVariants.{Pair, Other}}}

-- a scalar below U+0800 has at most two code units
pub two_units : (form : EncodingForm) (c : ℕ) → c < 0x800 → length (code_units form c) ≤ 2
unfolding encode
two_units form c h = grind (arith, nat_tests)

pub four_units : (form : EncodingForm) (c : ℕ) → length (code_units form c) ≤ 4
four_units form c = grind (arith, length-code_units-wide)

-- two scalars that two bytes give
pub writes_both : {D : Type 0} (T : Ghosts D) {g : Grammar} {x y z : D} (bytes : List ℕ) (c d : ℕ) → Yields g bytes (c ∷ d ∷ [])
    → T.contents y ≡ T.contents x ++ code_units T.form c → T.room y + length (code_units T.form c) ≡ T.room x → T.loan y ≡ T.loan x
    → T.contents z ≡ T.contents y ++ code_units T.form d → T.room z + length (code_units T.form d) ≡ T.room y → T.loan z ≡ T.loan y
    → Writes T g bytes x z
writes_both T bytes c d yields contents room loan contents' room' loan' = record {
  scalars = c ∷ d ∷ [];
  yields = yields;
  written = grind (arith, append-nil, append_assoc);
  room = grind (arith, append-nil, length-append);
  loan = grind arith;
}

-- the first n bytes of a list that has them, whatever stands for those that it lacks
pub front_bytes : (src : List ℕ) (b c d n : ℕ) → n ≤ 4 → n ≤ length src → (1 < length src → b ≡ get_or src 1 0) → (2 < length src → c ≡ get_or src 2 0)
    → (3 < length src → d ≡ get_or src 3 0) → take n (get_or src 0 0 ∷ b ∷ c ∷ d ∷ []) ≡ take n src
front_bytes src b c d zero most within second third fourth = refl
front_bytes [] b c d (suc n) most within second third fourth = grind (arith, within)
front_bytes (x ∷ src) b c d (suc zero) most within second third fourth = refl
front_bytes (x ∷ []) b c d (suc (suc n)) most within second third fourth = grind (arith, within)
front_bytes (x ∷ y ∷ src) b c d (suc (suc zero)) most within second third fourth = rw (second (omega arith)) refl
front_bytes (x ∷ y ∷ []) b c d (suc (suc (suc n))) most within second third fourth = grind (arith, within)
front_bytes (x ∷ y ∷ z ∷ src) b c d (suc (suc (suc zero))) most within second third fourth = rw (second (omega arith), third (omega arith)) refl
front_bytes (x ∷ y ∷ z ∷ []) b c d (suc (suc (suc (suc n)))) most within second third fourth = grind (arith, within)
front_bytes (x ∷ y ∷ z ∷ w ∷ src) b c d (suc (suc (suc (suc zero)))) most within second third fourth =
    rw (second (omega arith), third (omega arith), fourth (omega arith)) refl
front_bytes (x ∷ y ∷ z ∷ w ∷ src) b c d (suc (suc (suc (suc (suc n))))) most within second third fourth = grind (arith, most)

-- the form that a scalar or none gives is at the front, if such a scalar is that of the first two bytes
pub pair_is : (g : Grammar) (a b c d : ℕ) (form : Form) (scalar : Option ℕ) → MatchOption scalar (form ≡ Other) (λ x. form ≡ Pair x)
    → ((x : ℕ) → scalar ≡ Some x → Yields g (a ∷ b ∷ []) (x ∷ [])) → IsFrontForm g a b c d form
pair_is g a b c d form None e pair = grind (arith, e)
pair_is g a b c d form (Some x) e pair = rw e (pair x refl)
