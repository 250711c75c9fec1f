-- How a decoder's handler processes a queue of bytes (Encoding Standard, "process a queue" and "process an item").
use Rattle.std.specs.Prelude.{◌≡◌, ℕ, zero, suc, ◌+◌, ◌-◌, List, [], ◌∷◌, ◌++◌, length, map, Option, Some, None, option_map}
use Rattle.legacy_base.specs.declared.results.DecodeEvent.{DecodeEvent}
use Rattle.legacy_base.specs.declared.results.DecodeEvent.TheVariants.{Scalar, Bad}
use Rattle.legacy_standard.specs.Queue.{Item, byte, end_of_queue, Outcome, continue, finished, error, code_points, Handled}

-- The malformed sequence of an error, by the state before the item, the item, and what is read. The handler has read
-- `size` bytes from `place` on since it last returned anything but continue, without those that it restored. The
-- Standard does not count bytes; only the place and length of an error depend on these two numbers.
abbrev pub Malformed : Type 0 → Type 0
Malformed State = State → Item → (place size : ℕ) → DecodeEvent

-- the malformed sequence is all that is read
abbrev pub all_read : {State : Type 0} → Malformed State
all_read state item place size = Bad place size

-- the effect of an outcome, if this is the malformed sequence of an error
abbrev pub act_on : {State : Type 0} → (ℕ → ℕ → DecodeEvent) → (State → ℕ → ℕ → List ℕ → Option (List DecodeEvent))
    → Outcome → State → ℕ → ℕ → List ℕ → Option (List DecodeEvent)
act_on malformed go continue state place size queue = go state place size queue
act_on malformed go finished state place size queue = Some []
act_on malformed go error state place size queue =
    option_map (λ events. malformed place size ∷ events) (go state (place + size) 0 queue)
act_on malformed go (code_points cs) state place size queue =
    option_map (λ events. map Scalar cs ++ events) (go state (place + size) 0 queue)

-- the events of a queue within this many turns, or none if the handler has not finished by then
unfoldable pub process : {State : Type 0} → (State → Item → Handled State) → Malformed State
    → ℕ → State → ℕ → ℕ → List ℕ → Option (List DecodeEvent)
process handler malformed zero state place size queue = None
process handler malformed (suc turns) state place size [] =
    let h = handler state end_of_queue in
    act_on (malformed state end_of_queue) (process handler malformed turns) h.outcome h.state place (size - length h.restored) h.restored
process handler malformed (suc turns) state place size (b ∷ rest) =
    let h = handler state (byte b) in
    act_on (malformed state (byte b)) (process handler malformed turns) h.outcome h.state place (size + 1 - length h.restored) (h.restored ++ rest)

-- the handler gives these events for a whole queue within some number of turns, and within any greater number
abbrev pub Processes : {State : Type 0} → (State → Item → Handled State) → Malformed State → State → List ℕ → List DecodeEvent → Type 0
Processes handler malformed initial queue events =
    (turns : ℕ) × ((more : ℕ) → process handler malformed (turns + more) initial 0 0 queue ≡ Some events)
