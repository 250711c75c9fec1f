-- The place of a run, and the numbers that its driver computes.
use Rattle.std.proofs.Common.{◌≡◌, ℕ, ◌+◌, ◌≤◌, ◌<◌, List, [], ◌∷◌, length, drop, get_or, map, Bool, false, IsTrue, eqb, refl, sym, arith, length-drop}
use Rattle.std.proofs.lemmas.{Bool.{true≢false, false≢true, Decides.nat_tests}, List.Sums.{sum_by-cons, sum_by-drop_more}}
use Rattle.std.specs.Prelude.{slice_index_or, sum_by, sum}
use Rattle.legacy_codecs.specs.Pieces.{RunPlace, is_none, place_before, place_after, piece_count, AreAmple}

-- after a last piece there is none
pub last_empty : (later : List (List ℕ)) → IsTrue (is_none later) → later ≡ []
last_empty later h = grind (arith, false≢true)

module _ {State : Type 0} where
  pub place_before-state : (s : State) (pieces : List (List ℕ)) → (place_before s pieces).state ≡ s
  place_before-state s pieces = grind arith

  pub place_after-state : (p : RunPlace State) (after : State) (empty : Bool) (unread : List ℕ) → (place_after p after empty unread).state ≡ after
  place_after-state p after empty unread = grind (arith, place_before-state)

  -- before the first piece all pieces are unread
  pub pieces-length : (s : State) (pieces : List (List ℕ)) →
      length (place_before s pieces).piece + sum_by length (place_before s pieces).later ≡ sum_by length pieces
  pieces-length s [] = refl
  pieces-length s (p ∷ ps) = sym (sum_by-cons length p ps)

  -- a step to the next piece leaves one fewer
  pub later_less : (s : State) (later : List (List ℕ)) → is_none later ≡ false → length (place_before s later).later + 1 ≡ length later
  later_less s later h = grind (arith, true≢false)

  later_count : (s : State) (pieces : List (List ℕ)) → length (place_before s pieces).later + 1 ≡ piece_count pieces
  later_count s pieces = grind arith

  -- if the calls are at most as many as the events and pieces used, ample outputs are left
  pub calls_are_fewer : (s : State) (pieces : List (List ℕ)) (lengths : List ℕ) (room events calls given left : ℕ) → AreAmple room events pieces lengths →
      calls + left ≤ given + length (place_before s pieces).later → given ≤ events → calls < length lengths
  calls_are_fewer s pieces lengths room events calls given left a few part = let count = later_count s pieces in let many = a.many in omega arith

  -- the first of the pieces and those after it are a run's place before all of them
  pub place_split : {A : Type 0} (reading : A → List ℕ) (s : State) (pieces : List A) {empty first : A} {later : List A} → reading empty ≡ [] →
      first ≡ slice_index_or pieces 0 empty → later ≡ drop 1 pieces →
      record { state = s; piece = reading first; later = map reading later } ≡ place_before s (map reading pieces)
  place_split reading s [] z e f = rw (e, f, z) refl
  place_split reading s (p ∷ ps) z e f = rw (e, f) refl

-- the test for the last piece, by the number of pieces after it
pub none_is : {A : Type 0} (reading : A → List ℕ) (later : List A) → eqb (length later) 0 ≡ is_none (map reading later)
none_is reading [] = refl
none_is reading (p ∷ ps) = grind (arith, nat_tests)

-- the room for a call and for all calls after it
abbrev pub room_from : List ℕ → ℕ → ℕ
room_from lengths calls = sum (drop calls lengths) + length (drop calls lengths)

room_step : (xs : List ℕ) (i : ℕ) → i < length xs → room_from xs i ≡ get_or xs i 0 + 1 + room_from xs (i + 1)
room_step xs i h = omega (arith, sum_by-drop_more (λ n. n) xs i 0 h, length-drop i xs, length-drop (i + 1) xs)

-- ---- a list of events with room for a call and for all calls after it

module _ (lengths : List ℕ) {calls : ℕ} (few : calls < length lengths) (len : ℕ) {capacity : ℕ} (room : len + room_from lengths calls ≤ capacity) where
  -- there is room for the events of the call, and for its report
  pub room_now : len + (get_or lengths calls 0 + 1) ≤ capacity
  room_now = omega (arith, room_step lengths calls few)

  -- after the call there is room for the events of the calls after it
  pub room_later : {after capacity_after : ℕ} → capacity ≤ capacity_after → after ≤ len + (get_or lengths calls 0 + 1) →
      after + room_from lengths (calls + 1) ≤ capacity_after
  room_later grown made = omega (arith, room_step lengths calls few)

-- a list of events with room for what a call wrote into `free` units and for its report
module _ (len : ℕ) {capacity free written : ℕ} (room : len + (free + 1) ≤ capacity) (few : written ≤ free) where
  pub room_written : len + written ≤ capacity
  room_written = omega arith

  module _ {after : ℕ} (made : after ≡ len + written) where
    pub room_report : {capacity_after : ℕ} → capacity ≤ capacity_after → after < capacity_after
    room_report grown = omega arith

    pub few_events : {last : ℕ} → last ≤ after + 1 → last ≤ len + (free + 1)
    few_events more = omega arith
