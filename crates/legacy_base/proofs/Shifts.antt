-- Laws of shifted lists of events.
use Rattle.std.proofs.Common.{◌≡◌, ℕ, ◌+◌, List, [], ◌∷◌, ◌++◌, map, refl, ap, arith}
use Rattle.legacy_base.specs.{declared.results.DecodeEvent.DecodeEvent, declared.results.DecodeEvent.TheVariants.{Scalar}, Events.{shift_event, shift}}

pub shift-append : (k : ℕ) (xs ys : List DecodeEvent) → shift k (xs ++ ys) ≡ shift k xs ++ shift k ys
shift-append k [] ys = refl
shift-append k (x ∷ xs) ys = ap (λ (es : List DecodeEvent). shift_event k x ∷ es) (shift-append k xs ys)

pub shift-zero : (xs : List DecodeEvent) → shift 0 xs ≡ xs
shift-zero [] = refl
shift-zero (x ∷ xs) = grind (arith, shift-zero xs)

pub shift-shift : (j k : ℕ) (xs : List DecodeEvent) → shift j (shift k xs) ≡ shift (j + k) xs
shift-shift j k [] = refl
shift-shift j k (x ∷ xs) = grind (arith, shift-shift j k xs)

-- shifting changes no scalars
pub shift-scalars : (k : ℕ) (cs : List ℕ) → shift k (map Scalar cs) ≡ map Scalar cs
shift-scalars k [] = refl
shift-scalars k (c ∷ cs) = ap (λ (es : List DecodeEvent). Scalar c ∷ es) (shift-scalars k cs)
