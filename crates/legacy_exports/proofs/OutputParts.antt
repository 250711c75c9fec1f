-- What an output contains after a write to its part from a place on.
use Rattle.std.proofs.Common.{◌≡◌, ◌∙◌, ℕ, set, ◌+◌, ◌-◌, ◌≤◌, List, [], ◌∷◌, ◌++◌, length, take, drop, sym, ap, arith, subst}
use Rattle.std.proofs.Common.{length-set, length-take, length-drop, append_assoc}
use Rattle.std.proofs.{Math.Seq.take-append-add, lemmas.Slice.take-put_mid, lemmas.List.{take-take, take_more_set, length-take-le}}
use borrow.Rule.Slice.PartMut.{put_mid}

-- the beginning of the output, up to the last item that was written
pub front_of_part : {A : Type 0} (a k n : ℕ) (xs ys : List A) → a ≤ length xs → n ≤ length ys → take (a + n) (put_mid a k xs ys) ≡ take a xs ++ take n ys
front_of_part a k n xs ys within le =
    let all : take (a + length ys) (put_mid a k xs ys) ≡ take a xs ++ ys = take-put_mid a k xs ys (a + length ys) (omega arith) within in
    let long : length (take a xs) ≡ a = length-take-le a xs within in
    sym (take-take (a + n) (a + length ys) (put_mid a k xs ys) (omega arith)) ∙ ap (take (a + n)) all
    ∙ subst (λ m. take (m + n) (take a xs ++ ys) ≡ take a xs ++ take n ys) long (take-append-add (take a xs) ys n)

-- the same for the numbers of the items
pub front_of_units : {A : Type 0} (units : List A → List ℕ) → ((xs ys : List A) → units (xs ++ ys) ≡ units xs ++ units ys) →
    (a k n : ℕ) (xs ys : List A) → a ≤ length xs → n ≤ length ys → units (take (a + n) (put_mid a k xs ys)) ≡ units (take a xs) ++ units (take n ys)
front_of_units units law a k n xs ys within le = ap units (front_of_part a k n xs ys within le) ∙ law (take a xs) (take n ys)

-- the code units that are free after those written
pub free_after : {A : Type 0} (units : List A → List ℕ) → ((xs : List A) → length (units xs) ≡ length xs) → (a total : ℕ) (xs : List A) → a ≤ length xs →
    length xs ≡ total → length (take (length xs - a) (drop a xs)) ≡ total - length (units (take a xs))
free_after units law a total xs within e = omega (arith, law (take a xs), length-take a xs, length-take (length xs - a) (drop a xs), length-drop a xs)

-- three items are written at a place
pub three_put : (xs : List ℕ) (at a b c : ℕ) → at + 3 ≤ length xs →
    take (at + 3) (set (set (set xs at a) (at + 1) b) (at + 2) c) ≡ take at xs ++ (a ∷ b ∷ c ∷ [])
three_put xs at a b c h =
    let ys = set xs at a in
    let zs = set ys (at + 1) b in
    let long = length-set xs at a in
    let longer = length-set ys (at + 1) b in
    let one : take (at + 1) ys ≡ take at xs ++ a ∷ [] = take_more_set xs at a (omega arith) in
    let two : take (at + 2) zs ≡ take (at + 1) ys ++ b ∷ [] =
    subst (λ n. take n zs ≡ take (at + 1) ys ++ b ∷ []) (omega arith) (take_more_set ys (at + 1) b (omega arith)) in
    let three : take (at + 3) (set zs (at + 2) c) ≡ take (at + 2) zs ++ c ∷ [] =
    subst (λ n. take n (set zs (at + 2) c) ≡ take (at + 2) zs ++ c ∷ []) (omega arith) (take_more_set zs (at + 2) c (omega arith)) in
    rw (three, two, one, append_assoc (take at xs) (a ∷ []) (b ∷ []), append_assoc (take at xs) (a ∷ b ∷ []) (c ∷ []))
