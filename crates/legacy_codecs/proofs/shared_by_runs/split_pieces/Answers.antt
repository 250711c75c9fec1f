use Rattle.std.proofs.Common.{◌≡◌, ◌∙◌, ◌-◌, List, [], ◌∷◌, length, drop, get_or, eqb, true, false, refl, sym, arith, length-drop}
use Rattle.std.proofs.lemmas.{Bool.{true≢false, eqb-true}, List.take_all}
use Rattle.legacy_codecs.proofs.shared_by_runs.split_pieces.Goals as goal

-- the first of some elements, or of none
first_is : {A : Type 0} (xs : List A) (e d : A) → eqb (length xs) 0 ≡ false → e ≡ get_or xs 0 e → e ≡ get_or xs 0 d
first_is [] e d h i = absurd (true≢false h)
first_is (x ∷ xs) e d h i = i

first_of_none : {A : Type 0} (xs : List A) (d : A) → eqb (length xs) 0 ≡ true → d ≡ get_or xs 0 d
first_of_none [] d h = refl
first_of_none (x ∷ xs) d h = let none = eqb-true _ _ h in absurd (omega (arith, none))

none_later : {A : Type 0} (xs : List A) → eqb (length xs) 0 ≡ true → xs ≡ drop 1 xs
none_later [] h = refl
none_later (x ∷ xs) h = let none = eqb-true _ _ h in absurd (omega (arith, none))

pub returns : goal.returns
returns g c =
    let pieces = c.args.pieces.now in
    record {
      first = first_is pieces _ _ (sym c.is_empty.ensures ∙ c.if-is_empty.false) c.index-pieces-0.is;
      later = take_all (length pieces - 1) (drop 1 pieces) (omega (arith, length-drop 1 pieces));
    }

pub returns-then-is_empty : goal.returns-then-is_empty
returns-then-is_empty g c =
    let none = sym c.is_empty.ensures ∙ c.if-is_empty.true in record { first = first_of_none _ _ none; later = none_later _ none }
