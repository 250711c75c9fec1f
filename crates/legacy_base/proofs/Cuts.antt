-- How `cut` unfolds, front by front.
use Rattle.std.proofs.{lemmas.Bool.Decides.nat_tests, Common.{◌≡◌, ℕ, zero, suc, pred, ◌+◌, ◌<◌, List, [], ◌∷◌, ◌++◌, drop, refl, sym, ap₂, add_assoc}}
use Rattle.std.proofs.Common.{add-zero, zero-add, arith}
use Rattle.legacy_base.specs.{Events.shift, Fronts.{Front, reads, malformed, front_length, front_events, cut}}
use Rattle.legacy_base.proofs.Shifts.{shift-append, shift-scalars}

pub front_events-place : (k p : ℕ) (f : Front) → front_events (k + p) f ≡ shift k (front_events p f)
front_events-place k p (reads n cs) = sym (shift-scalars k cs)
front_events-place k p (malformed n) = refl

-- the events of a list whose first byte is k places later
pub cut-place : (front : ℕ → List ℕ → Front) (skip k p : ℕ) (bytes : List ℕ) → cut front skip (k + p) bytes ≡ shift k (cut front skip p bytes)
unfolding cut
cut-place front skip k p [] = refl
cut-place front zero k p (b ∷ rest) =
    rw (shift-append, add_assoc)
    (ap₂ ◌++◌ (front_events-place k p (front b rest)) (cut-place front (pred (front_length (front b rest))) k (p + 1) rest))
cut-place front (suc skip) k p (b ∷ rest) = rw add_assoc (cut-place front skip k (p + 1) rest)

-- the events at place p are those at place 0, shifted by p
pub cut_from_zero : (front : ℕ → List ℕ → Front) (skip p : ℕ) (bytes : List ℕ) → cut front skip p bytes ≡ shift p (cut front skip 0 bytes)
cut_from_zero front skip p bytes = rw (← (cut-place front skip p 0 bytes), add-zero)

-- bytes of a front that began earlier are skipped
pub cut-skip : (front : ℕ → List ℕ → Front) (n p : ℕ) (bytes : List ℕ) → cut front n p bytes ≡ cut front 0 (p + n) (drop n bytes)
unfolding cut
cut-skip front zero p bytes = rw add-zero
cut-skip front (suc n) p [] = refl
cut-skip front (suc n) p (b ∷ rest) =
    let e : (p + 1) + n ≡ p + suc n = omega arith in
    rw (← e) (cut-skip front n (p + 1) rest)

pub cut-nil : (front : ℕ → List ℕ → Front) → cut front 0 0 [] ≡ []
unfolding cut
cut-nil front = refl

-- if the first front is known: its events, and then those of the bytes after it
pub cut_at : (front : ℕ → List ℕ → Front) (p b : ℕ) (rest : List ℕ) (f : Front) → front b rest ≡ f → 0 < front_length f →
    cut front 0 p (b ∷ rest) ≡ front_events p f ++ cut front 0 (p + front_length f) (drop (front_length f) (b ∷ rest))
unfolding cut
cut_at front p b rest f e pos = grind (arith, nat_tests, cut-skip)

-- the events of the first front, and then those of the bytes after it
pub cut-front : (front : ℕ → List ℕ → Front) (b : ℕ) (rest : List ℕ) → 0 < front_length (front b rest) → cut front 0 0 (b ∷ rest)
    ≡ front_events 0 (front b rest) ++ shift (front_length (front b rest)) (cut front 0 0 (drop (front_length (front b rest)) (b ∷ rest)))
cut-front front b rest pos =
    let n = front_length (front b rest) in
    rw (cut_at front 0 b rest (front b rest) refl pos, zero-add n, cut_from_zero front 0 n (drop n (b ∷ rest))) refl
