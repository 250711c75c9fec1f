-- One turn over a queue, by the handler's result for the item.
use Rattle.std.proofs.Common.{◌≡◌, ℕ, suc, ◌+◌, ◌-◌, List, [], ◌∷◌, ◌++◌, length, map, Some, refl, suc-add, one-add}
use Rattle.legacy_base.specs.{declared.results.DecodeEvent.DecodeEvent, declared.results.DecodeEvent.TheVariants.Scalar, Grammar.{Grammar, events_of}}
use Rattle.legacy_tables.specs.Unicode.{AreBytes}
use Rattle.legacy_standard.specs.Queue.{Item, byte, end_of_queue, Handled, continue, finished, error, code_points, returns, restores}
use Rattle.legacy_standard.specs.Processing.{Malformed, all_read, process, Processes}

-- within some number of turns, and within any greater number, the events are these
pub record Proceeds {S : Type 0} (handler : S → Item → Handled S) (malformed : Malformed S) (s : S) (place size : ℕ) (queue : List ℕ)
    (events : List DecodeEvent) : Type 0 where
  pub turns : ℕ
  pub proceeds : (more : ℕ) → process handler malformed (turns + more) s place size queue ≡ Some events

-- the handler gives the events of the grammar for every list of bytes
abbrev pub IsDecodedBy : {State : Type 0} → Grammar → (State → Item → Handled State) → State → Type 0
IsDecodedBy grammar handler initial = (bytes : List ℕ) → AreBytes bytes → Processes handler all_read initial bytes (events_of grammar bytes)

module _ {S : Type 0} {handler : S → Item → Handled S} {malformed : Malformed S} where
  pub steady : {s : S} {queue : List ℕ} {events : List DecodeEvent} → Proceeds handler malformed s 0 0 queue events → Processes handler malformed s queue events
  steady r = (r.turns, r.proceeds)

  -- at the end of the queue the handler has finished
  pub at_end : {s t : S} {place size : ℕ} → handler s end_of_queue ≡ returns finished t → Proceeds handler malformed s place size [] []
  unfolding process
  at_end e = record { turns = 1; proceeds = λ more. rw (one-add, e) refl }

  -- at the end of the queue the handler returns error
  pub error_at_end : {s t : S} {place size : ℕ} (bytes : List ℕ) {es : List DecodeEvent} → handler s end_of_queue ≡ restores bytes error t →
      Proceeds handler malformed t (place + (size - length bytes)) 0 bytes es →
      Proceeds handler malformed s place size [] (malformed s end_of_queue place (size - length bytes) ∷ es)
  unfolding process
  error_at_end bytes e h = record { turns = suc h.turns; proceeds = λ more. rw (suc-add, e, h.proceeds more) refl }

  -- the handler reads the byte and continues
  pub goes_on : {s t : S} {place size b : ℕ} {rest : List ℕ} {es : List DecodeEvent} → handler s (byte b) ≡ returns continue t →
      Proceeds handler malformed t place (size + 1 - 0) rest es → Proceeds handler malformed s place size (b ∷ rest) es
  unfolding process
  goes_on e h = record { turns = suc h.turns; proceeds = λ more. rw (suc-add, e) (h.proceeds more) }

  -- the handler returns error
  pub error_at : {s t : S} {place size b : ℕ} (bytes : List ℕ) {rest : List ℕ} {es : List DecodeEvent} →
      handler s (byte b) ≡ restores bytes error t → Proceeds handler malformed t (place + (size + 1 - length bytes)) 0 (bytes ++ rest) es →
      Proceeds handler malformed s place size (b ∷ rest) (malformed s (byte b) place (size + 1 - length bytes) ∷ es)
  unfolding process
  error_at bytes e h = record { turns = suc h.turns; proceeds = λ more. rw (suc-add, e, h.proceeds more) refl }

  -- the handler returns code points
  pub gives : {s t : S} {place size b : ℕ} (cs : List ℕ) {rest : List ℕ} {es : List DecodeEvent} → handler s (byte b) ≡ returns (code_points cs) t →
      Proceeds handler malformed t (place + (size + 1 - 0)) 0 rest es → Proceeds handler malformed s place size (b ∷ rest) (map Scalar cs ++ es)
  unfolding process
  gives cs e h = record { turns = suc h.turns; proceeds = λ more. rw (suc-add, e, h.proceeds more) refl }
