-- An input in pieces, and the place of a run over it.
use Rattle.std.specs.Prelude.{ℕ, ◌+◌, ◌≤◌, ◌^◌, List, [], ◌∷◌, length, map, flat_map, sum, sum_by, ◌⊎◌, Bool, true, false, ◌&&◌, All}
use Rattle.std.specs.Borrow.{Bor}

-- the code units of each slice
abbrev pub contents_of : List (Bor (List ℕ)) → List (List ℕ)
contents_of pieces = map (λ p. p.now) pieces

-- all pieces, one after another
abbrev pub joined : List (List ℕ) → List ℕ
joined pieces = flat_map (λ p. p) pieces

-- the number of pieces; no pieces count as one empty piece
abbrev pub piece_count : List (List ℕ) → ℕ
piece_count [] = 1
piece_count (p ∷ ps) = length (p ∷ ps)

-- a sum is no `usize`: that of the pieces' lengths, or that of the outputs' lengths and their number
abbrev pub IsTooLong : List (List ℕ) → List ℕ → Type 0
IsTooLong pieces lengths = (2 ^ 64 ≤ sum_by length pieces) ⊎ (2 ^ 64 ≤ sum lengths + length lengths)

-- Each output has at least this room, and there are at least as many outputs as events and pieces together.
pub record AreAmple (room events : ℕ) (pieces : List (List ℕ)) (lengths : List ℕ) : Type 0 where
  pub wide : All (λ n. room ≤ n) lengths
  pub many : events + piece_count pieces ≤ length lengths

-- ---- the place of a run

-- the state of the decoder or encoder, the unread part of the current piece, and the pieces after it
pub record RunPlace (State : Type 0) : Type 0 where
  pub state : State
  pub piece : List ℕ
  pub later : List (List ℕ)

-- no pieces are left
abbrev pub is_none : List (List ℕ) → Bool
is_none [] = true
is_none (p ∷ ps) = false

-- the place before the first of the pieces; no pieces count as one empty piece
abbrev pub place_before : {State : Type 0} → State → List (List ℕ) → RunPlace State
place_before state [] = record { state = state; piece = []; later = [] }
place_before state (p ∷ ps) = record { state = state; piece = p; later = ps }

-- The place after a call: after InputEmpty the next piece follows, and otherwise the unread rest is passed again.
abbrev pub place_after : {State : Type 0} → RunPlace State → State → (input_empty : Bool) → (unread : List ℕ) → RunPlace State
place_after p after true unread = place_before after p.later
place_after p after false unread = record { state = after; piece = unread; later = p.later }

-- a run ends at InputEmpty on the last piece
abbrev pub ends_run : {State : Type 0} → RunPlace State → (input_empty : Bool) → Bool
ends_run p input_empty = input_empty && is_none p.later
