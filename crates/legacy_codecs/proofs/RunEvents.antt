-- What the calls of a run give together.
use Rattle.std.proofs.Common.{◌≡◌, ◌∙◌, ℕ, ◌+◌, List, [], ◌∷◌, ◌++◌, length, drop, map, refl, sym, ap, arith, append_assoc, append-nil, subst, Bool, true}
use Rattle.std.proofs.{Common.{IsTrue, inl}, lemmas.Bool.false≢true, Math.ListN.drop_of_length-le}
use Rattle.legacy_base.specs.{declared.results.DecodeEvent.DecodeEvent, declared.results.DecodeEvent.TheVariants.Scalar}
use Rattle.legacy_base.specs.{declared.results.DecoderResult.DecoderResult, declared.results.DecoderResult.TheVariants.InputEmpty}
use Rattle.legacy_base.specs.{Events.shift, Grammar.events_of, States.DecoderState, Calls.out_events}
use Rattle.legacy_text.specs.EncodingForm.{EncodingForm}
use Rattle.legacy_base.proofs.{Shifts.{shift-append, shift-shift, shift-zero}, Progress.end_report-last}
use Rattle.legacy_codecs.specs.{Pieces.{joined, RunPlace, is_none, place_before, place_after}, Runs.{is_input_empty, Reaches, placed_event, placed, IsRun}}
use Rattle.legacy_codecs.specs.{Runs.{IsBeginning, HasNoneLeft, FinishedRun, CutsDoNotMatter}, Runs.Reaches.{begun, called}}
use Rattle.legacy_codecs.proofs.RunDrivers.{last_empty, place_before-state, place_after-state}

pub placed-append : (h : ℕ) (a b : List DecodeEvent) → placed h (a ++ b) ≡ placed h a ++ placed h b
unfolding placed
placed-append h [] b = refl
placed-append h (x ∷ a) b = ap (λ l. placed_event h x ∷ l) (placed-append h a b)

pub placed-scalars : (h : ℕ) (cs : List ℕ) → placed h (map Scalar cs) ≡ map Scalar cs
unfolding placed
placed-scalars h [] = refl
placed-scalars h (c ∷ cs) = ap (λ l. Scalar c ∷ l) (placed-scalars h cs)

-- the bytes that are held back or still to come at a place, and their events
abbrev pub ahead : RunPlace DecoderState → List ℕ
ahead p = p.state.held ++ (p.piece ++ joined p.later)

abbrev pub events_ahead : RunPlace DecoderState → List DecodeEvent
events_ahead p = events_of p.state.grammar (ahead p)

-- the place after a call
abbrev pub place_after_call : RunPlace DecoderState → DecoderState → DecoderResult → ℕ → RunPlace DecoderState
place_after_call p after answer read = place_after p after (is_input_empty answer) (drop read p.piece)

pub place_before-ahead : (s : DecoderState) (pieces : List (List ℕ)) → events_ahead (place_before s pieces) ≡ events_of s.grammar (s.held ++ joined pieces)
place_before-ahead s pieces = grind arith

-- after a call the same bytes are ahead, without those that it is done with
place_after-ahead : (p : RunPlace DecoderState) (after : DecoderState) (answer : DecoderResult) (read : ℕ) → (answer ≡ InputEmpty → read ≡ length p.piece) →
    after.held ++ (drop read p.piece ++ joined p.later) ≡ ahead (place_after_call p after answer read)
place_after-ahead p after answer read h = grind (arith, drop_of_length-le)

module _ {form : EncodingForm} {from : RunPlace DecoderState} {lengths : List ℕ} where
  -- the events up to a place, and then those of what is ahead, are all events
  pub Reaches-events : {calls : ℕ} {events : List DecodeEvent} {passed : ℕ} {finished : Bool} {p : RunPlace DecoderState} →
      Reaches form from lengths calls events passed finished p → events_ahead from ≡ events ++ shift passed (events_ahead p)
  Reaches-events begun = sym (shift-zero (events_ahead from))
  Reaches-events (called calls events passed p r free e after answer read scalars c) =
      let out = out_events (length p.state.held + read) scalars answer in
      let next = place_after_call p after answer read in
      let one : events_ahead p ≡ out ++ shift c.passed (events_of after.grammar (after.held ++ (drop read p.piece ++ joined p.later))) =
      c.progress.events (joined p.later) (λ l. inl (ap joined (last_empty p.later (end_report-last (is_none p.later) answer (drop read p.piece) l)))) in
      let two : events_of after.grammar (after.held ++ (drop read p.piece ++ joined p.later)) ≡ events_ahead next =
      ap (λ l. events_of after.grammar l) (place_after-ahead p after answer read (λ q. (c.input_empty q).0))
      ∙ ap (λ (s : DecoderState). events_of s.grammar (ahead next)) (sym (place_after-state p after (is_input_empty answer) (drop read p.piece))) in
      Reaches-events r ∙ rw (one, two, shift-append, shift-shift, append_assoc) refl

  -- a finished run is past all pieces, and nothing is left
  pub Reaches-finished : {calls : ℕ} {events : List DecodeEvent} {passed : ℕ} {finished : Bool} {p : RunPlace DecoderState} →
      Reaches form from lengths calls events passed finished p → finished ≡ true → (p ≡ place_before p.state []) × HasNoneLeft p.state
  Reaches-finished h h1 = grind (arith, false≢true, last_empty, place_before-state)

-- the events of a run are a prefix of all events
pub is_beginning : {form : EncodingForm} {before : DecoderState} {pieces : List (List ℕ)} {lengths : List ℕ} {calls : ℕ} {finished : Bool}
    {items : List DecodeEvent} {after : DecoderState} →
    IsRun form (place_before before pieces) lengths calls finished items after → IsBeginning before pieces finished items
unfolding placed
is_beginning {before = before} {pieces = pieces} {items = items} r =
    let h = length before.held in
    let left = shift r.passed (events_ahead r.place) in
    let given_is : items ≡ placed h r.events = r.placed_is ∙ ap (λ (s : DecoderState). placed (length s.held) r.events) (place_before-state before pieces) in
    record {
      rest = placed h left;
      whole =
          ap (placed h) (sym (place_before-ahead before pieces) ∙ Reaches-events r.reaches) ∙ placed-append h r.events left
          ∙ ap (λ l. l ++ placed h left) (sym given_is);
      all = λ e.
          let done = Reaches-finished r.reaches e in
          rw (done.0, append-nil r.place.state.held, done.1) refl;
    }

-- a finished run leaves nothing
pub none_left : {form : EncodingForm} {from : RunPlace DecoderState} {lengths : List ℕ} {calls : ℕ} {finished : Bool} {items : List DecodeEvent}
    {after : DecoderState} →
    IsRun form from lengths calls finished items after → IsTrue finished → HasNoneLeft after
none_left r h = subst HasNoneLeft r.state (Reaches-finished r.reaches h).1

-- a finished run gives all events
pub finished_gives : {before : DecoderState} {bytes : List ℕ} {answered : List DecodeEvent} → FinishedRun before bytes answered →
    placed (length before.held) (events_of before.grammar (before.held ++ bytes)) ≡ answered
finished_gives {before = before} {answered = answered} f =
    let b = is_beginning f.run in
    ap (λ l. placed (length before.held) (events_of before.grammar (before.held ++ l))) (sym f.same) ∙ b.whole ∙ ap (λ l. answered ++ l) (b.all refl)
    ∙ append-nil answered

pub cuts_do_not_matter : CutsDoNotMatter
cuts_do_not_matter before bytes one other f g = sym (finished_gives f) ∙ finished_gives g
