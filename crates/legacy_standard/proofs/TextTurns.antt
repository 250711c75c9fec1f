-- One turn over a queue of scalar values.
use Rattle.std.proofs.Common.{◌≡◌, ℕ, suc, ◌+◌, List, [], ◌∷◌, ◌++◌, map, Option, Some, None, refl, true, suc-add, one-add}
use Rattle.legacy_base.specs.{declared.results.EncodeEvent.EncodeEvent, declared.results.EncodeEvent.TheVariants.Byte, EncodeEvents.code_events}
use Rattle.legacy_base.specs.Encoders.{Codec, new_encoder, encoded}
use Rattle.legacy_standard.specs.TextQueue.{TextItem, scalar, end_of_queue, TextOutcome, TextHandled, finished, bytes, error_with, returns, restores}
use Rattle.legacy_standard.specs.TextQueue.{process, Encodes}
use Rattle.legacy_tables.specs.Unicode.{AreScalars}

-- the result of a handler for a scalar, by its code
abbrev pub by_code : ℕ → Option (List ℕ) → TextOutcome
by_code c None = error_with c
by_code c (Some bs) = bytes bs

-- within some number of turns, and within any greater number, the events are these
pub record WritesText {S : Type 0} (handler : S → TextItem → TextHandled S) (s : S) (queue : List ℕ) (events : List EncodeEvent) : Type 0 where
  pub turns : ℕ
  pub proceeds : (more : ℕ) → process handler (turns + more) s queue ≡ Some events

module _ {S : Type 0} {handler : S → TextItem → TextHandled S} where
  pub steady : {s : S} {queue : List ℕ} {events : List EncodeEvent} → WritesText handler s queue events → Encodes handler s queue events
  steady w = (w.turns, w.proceeds)

  pub ends : {s t : S} → handler s end_of_queue ≡ returns finished t → WritesText handler s [] []
  unfolding process
  ends e = record { turns = 1; proceeds = λ more. rw (one-add, e) refl }

  pub end_bytes : {s t : S} (bs : List ℕ) {es : List EncodeEvent} → handler s end_of_queue ≡ returns (bytes bs) t → WritesText handler t [] es →
      WritesText handler s [] (map Byte bs ++ es)
  unfolding process
  end_bytes bs e h = record { turns = suc h.turns; proceeds = λ more. rw (suc-add, e, h.proceeds more) refl }

  -- the handler returns bytes or an error, and restores scalar values
  pub gives : {s t : S} {c : ℕ} (d : ℕ) (o : Option (List ℕ)) (again : List ℕ) {rest : List ℕ} {es : List EncodeEvent} →
      handler s (scalar c) ≡ restores again (by_code d o) t → WritesText handler t (again ++ rest) es → WritesText handler s (c ∷ rest) (code_events d o ++ es)
  unfolding process
  gives d None again e h = record { turns = suc h.turns; proceeds = λ more. rw (suc-add, e, h.proceeds more) refl }
  gives d (Some bs) again e h = record { turns = suc h.turns; proceeds = λ more. rw (suc-add, e, h.proceeds more) refl }

-- the handler gives the events of the codec for every text
abbrev pub IsEncodedBy : {State : Type 0} → Codec → (State → TextItem → TextHandled State) → State → Type 0
IsEncodedBy codec handler initial =
    (text : List ℕ) → AreScalars text → Encodes handler initial text (encoded (new_encoder codec) text true)
