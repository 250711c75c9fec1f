-- The items that an encoder's handler reads, its results, and how it processes a queue of scalar values (Encoding Standard,
-- "process a queue" and "process an item").
use Rattle.std.specs.Prelude.{◌≡◌, ℕ, zero, suc, ◌+◌, ◌/◌, ◌%◌, List, [], ◌∷◌, ◌++◌, map, Option, Some, None, option_map}
use Rattle.legacy_base.specs.declared.results.EncodeEvent.{EncodeEvent}
use Rattle.legacy_base.specs.declared.results.EncodeEvent.TheVariants.{Byte, Unmappable}
pub use Rattle.legacy_standard.specs.Queue.{HandledAs, returns, restores}

-- an item of a queue of scalar values
pub data TextItem : Type 0 where
  scalar : ℕ → TextItem
  end_of_queue : TextItem

-- the result of a handler; no encoder returns continue
pub data TextOutcome : Type 0 where
  finished : TextOutcome
  bytes : List ℕ → TextOutcome
  error_with : ℕ → TextOutcome

-- a handler's result, its state after it, and the scalar values that it restores
abbrev pub TextHandled : Type 0 → Type 0
TextHandled State = HandledAs TextOutcome State

-- the result for a code point, by its index pointer and the bytes of a pointer
abbrev pub bytes_or_error : (ℕ → List ℕ) → Option ℕ → ℕ → TextOutcome
bytes_or_error bytes_of None c = error_with c
bytes_or_error bytes_of (Some pointer) c = bytes (bytes_of pointer)

-- the leading and the trailing byte of a pointer, by the length of a row and the two offsets
abbrev pub pointer_bytes : ℕ → ℕ → ℕ → ℕ → List ℕ
pointer_bytes row_length leading_offset trailing_offset pointer =
    (pointer / row_length + leading_offset) ∷ (pointer % row_length + trailing_offset) ∷ []

-- a handler without a state, by its result for each scalar value
abbrev pub by_scalar : (ℕ → TextOutcome) → Unit {0} → TextItem → TextHandled (Unit {0})
by_scalar outcome e end_of_queue = returns finished tt
by_scalar outcome e (scalar c) = returns (outcome c) tt

-- the effect of an outcome
abbrev pub act_on : {State : Type 0} → (State → List ℕ → Option (List EncodeEvent)) → TextOutcome → State → List ℕ → Option (List EncodeEvent)
act_on go finished state queue = Some []
act_on go (bytes bs) state queue = option_map (λ events. map Byte bs ++ events) (go state queue)
act_on go (error_with c) state queue = option_map (λ events. Unmappable c ∷ events) (go state queue)

-- the events of a queue within this many turns, or none if the handler has not finished by then
unfoldable pub process : {State : Type 0} → (State → TextItem → TextHandled State) → ℕ → State → List ℕ → Option (List EncodeEvent)
process handler zero state queue = None
process handler (suc turns) state [] =
    let h = handler state end_of_queue in act_on (process handler turns) h.outcome h.state h.restored
process handler (suc turns) state (c ∷ rest) =
    let h = handler state (scalar c) in act_on (process handler turns) h.outcome h.state (h.restored ++ rest)

-- the handler gives these events within some number of turns, and within any greater number
abbrev pub Encodes : {State : Type 0} → (State → TextItem → TextHandled State) → State → List ℕ → List EncodeEvent → Type 0
Encodes handler state queue events = (turns : ℕ) × ((more : ℕ) → process handler (turns + more) state queue ≡ Some events)
