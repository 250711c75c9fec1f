-- Lists that a loop makes of another list, element by element.
use Rattle.std.proofs.{Common.{◌≡◌, ℕ, ◌+◌, ◌<◌, List, [], ◌∷◌, ◌++◌, length, map, take, get_or, refl}, lemmas.{Grind.take_at_read, List.map-append}}

-- with one element more of each
pub mapped_more : {A B C : Type 0} (f : A → C) (h : B → C) (xs : List A) (i : ℕ) (x : A) (made : List B) (b : B) → i < length xs → x ≡ get_or xs i x →
    map h made ≡ map f (take i xs) → h b ≡ f x → map h (made ++ b ∷ []) ≡ map f (take (i + 1) xs)
mapped_more f h xs i x made b lt is before same =
    let more = (take_at_read xs i x lt).1 in
    rw (map-append h made (b ∷ []), more, ← is, map-append f (take i xs) (x ∷ []), before, same) refl
