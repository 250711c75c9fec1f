-- A page that has grown by what was written after its text.
use Rattle.std.proofs.{Common.{◌≡◌, ◌∙◌, ℕ, ◌+◌, ◌≤◌, List, ◌++◌, length, take, ap, arith}, lemmas.List.{length-append, take-append-le, take-take, take_all}}
use Rattle.std.proofs.Math.Seq.{take-append-add, take-append_seam}

-- the page is unchanged before what it grew by
pub grown_front : (page grown after : List ℕ) (start end : ℕ) → start ≡ length page → start ≤ end → grown ≡ take end page ++ after → take start grown ≡ page
grown_front page grown after start end is h e =
    rw (is, e, take_all end page (omega (arith, is, h))) (take-append_seam page after)

-- what is kept is the page, and then what was written
pub kept_page : (page front output after rest : List ℕ) (start written whole : ℕ) → start ≡ length page → front ≡ page → written ≤ length output
    → start + written ≤ whole →
    take (start + written) (take whole ((front ++ (output ++ after)) ++ rest)) ≡ page ++ take written output
kept_page page front output after rest start written whole is same h in_whole =
    let grown = page ++ (output ++ after) in
    let within : length page + written ≤ length grown =
    omega (arith, h, length-append page (output ++ after), length-append output after) in
    rw (take-take (start + written) whole ((front ++ (output ++ after)) ++ rest) in_whole, same, is, take-append-le (length page + written) grown rest within)
    (take-append-add page (output ++ after) written ∙ ap (λ l. page ++ l) (take-append-le written output after h))
