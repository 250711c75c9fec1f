-- The units of UTF-16 give the same events as its fronts.
use Rattle.std.proofs.{Common.{◌≡◌, ℕ, ◌+◌, ◌*◌, List, ◌∷◌, ◌++◌, Bool, inl, inr, refl, ◌&&◌, arith}, lemmas.Bool.cases_Bool}
use Rattle.std.specs.Char.Utf16.{is_high_surrogate, is_low_surrogate}
use Rattle.legacy_base.{specs.{Fronts.{Front, cut}, Utf16.{unit_of, units_of, has_odd_byte, single_unit_events, units_events}}, proofs.Cuts.cut_at}
use Rattle.legacy_miscellaneous.specs.Utf16Fronts.{single_unit_front, utf16_front}

-- two bytes of an unpaired unit
cut_unpaired : (front : ℕ → List ℕ → Front) (i u a b : ℕ) (rest : List ℕ) → front a (b ∷ rest) ≡ single_unit_front u →
    cut front 0 (2 * i) (a ∷ b ∷ rest) ≡ single_unit_events i u ++ cut front 0 (2 * (i + 1)) rest
cut_unpaired front i u a b rest h = let place : 2 * i + 2 ≡ 2 * (i + 1) = omega arith in grind (arith, cut_at front (2 * i) a (b ∷ rest))

pub utf16_cut : (be : Bool) (i : ℕ) (bytes : List ℕ) → units_events i (units_of be bytes) (has_odd_byte bytes) ≡ cut (utf16_front be) 0 (2 * i) bytes
unfolding units_of has_odd_byte units_events utf16_front cut
utf16_cut be i (a ∷ b ∷ c ∷ d ∷ rest) =
    let place : 2 * i + 4 ≡ 2 * (i + 2) = omega arith in
    elim (cases_Bool (is_high_surrogate (unit_of be a b) && is_low_surrogate (unit_of be c d))) [
      | inl e ↦ grind (arith, utf16_cut be (i + 2) rest, cut_at (utf16_front be) (2 * i) a (b ∷ c ∷ d ∷ rest))
      | inr e ↦ grind (arith, utf16_cut be (i + 1) (c ∷ d ∷ rest), cut_unpaired (utf16_front be) i (unit_of be a b) a b (c ∷ d ∷ rest))
    ]
utf16_cut be i (a ∷ b ∷ rest) = grind (arith, cut_unpaired (utf16_front be) i (unit_of be a b) a b rest)
utf16_cut be i bytes = refl
