-- What pieces of an input are by their types: bytes, or texts of Unicode scalar values.
use Rattle.std.proofs.Common.{◌≡◌, ◌∙◌, ℕ, suc, ◌<◌, List, [], ◌∷◌, length, map, get_or, refl, arith, All, true, IsTrue}
use Rattle.std.proofs.{lemmas.List.Elements.{All-append, All-nil, All-cons}, lemmas.Bool.Decides.nat_tests}
use Rattle.std.specs.{Char.IsScalar, Char.Utf16.utf16_chars}
use lib.Utf8.{scalars}
use Rattle.legacy_text.specs.Texts.{unit_scalars}
use Rattle.legacy_codecs.specs.Pieces.{joined}

-- what holds of each item of each piece holds of the items of all pieces
pub all_joined : (P : ℕ → Type 0) {A : Type 0} (reading : A → List ℕ) (pieces : List A) →
    ((k : ℕ) (d : A) → k < length pieces → All P (reading (get_or pieces k d))) → All P (joined (map reading pieces))
all_joined P reading [] each = All-nil P
all_joined P reading (p ∷ ps) each =
    All-append P (reading p) (joined (map reading ps)) (each 0 p (omega arith)) (all_joined P reading ps (λ k d h. each (suc k) d (omega arith)))

-- the characters of a text in UTF-8
pub scalars_are : (cs : List ℕ) → scalars cs ≡ true → All IsScalar cs
scalars_are [] e = All-nil IsScalar
scalars_are (c ∷ cs) e = grind (arith, All-cons, scalars_are cs)

-- those of a text in UTF-16, with U+FFFD for each unpaired surrogate
pub unit_scalars_are : (units : List ℕ) → ((i : ℕ) → get_or units i 0 < 65536) → All IsScalar (unit_scalars units)
unfolding utf16_chars
unit_scalars_are [] small = All-nil IsScalar
unit_scalars_are (u ∷ []) small = grind (arith, nat_tests, All-cons, All-nil, small 0)
unit_scalars_are (u ∷ v ∷ us) small =
    let pair = unit_scalars_are us (λ i. small (suc (suc i))) in
    let lone = unit_scalars_are (v ∷ us) (λ i. small (suc i)) in
    grind (arith, nat_tests, All-cons, small 0, small 1, pair, lone)
