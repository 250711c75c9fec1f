-- What the calls of an encoder's run give together.
use Rattle.std.proofs.Common.{arith, ◌≡◌, ◌∙◌, ℕ, ◌+◌, List, [], ◌++◌, map, refl, sym, ap, append_assoc, append-nil, subst}
use Rattle.std.proofs.Common.{Bool, true, false, IsTrue, Some, inl}
use Rattle.std.proofs.lemmas.Bool.{false≢true}
use Rattle.std.specs.Prelude.{slice_get}
use Rattle.legacy_base.specs.{declared.results.EncodeEvent.EncodeEvent, declared.results.EncodeEvent.TheVariants.Byte}
use Rattle.legacy_base.specs.{declared.results.EncoderResult.EncoderResult, declared.results.EncoderResult.TheVariants.InputEmpty}
use Rattle.legacy_base.specs.{Encoders.{EncoderState, encoded}, EncoderCalls.{EncoderCall, reported}}
use Rattle.legacy_base.proofs.EncoderLaws.{end-encoded, told_end-last}
use Rattle.legacy_codecs.specs.{Pieces.{joined, RunPlace, is_none, place_before, place_after, ends_run}, EncodeRuns.{is_input_empty, EncodeReaches}}
use Rattle.legacy_codecs.specs.{EncodeRuns.{IsEncodeRun, IsEncodeBeginning, HasNoEnd, FinishedEncodeRun, EncodeCutsDoNotMatter}, EncodeRuns.EncodeReaches.begun}
use Rattle.legacy_codecs.specs.EncodeRuns.EncodeReaches.{called}
use Rattle.legacy_codecs.proofs.RunDrivers.{last_empty, place_before-state}

-- one more call, with its outputs given by equations
module _ {from : RunPlace EncoderState} {lengths : List ℕ} {calls : ℕ} {items items' : List EncodeEvent} {p p' : RunPlace EncoderState} {free : ℕ}
    {after : EncoderState} {last finished empty : Bool} {answer : EncoderResult} {left bytes : List ℕ} where
  pub reaches_call : EncodeReaches from lengths calls items false p → slice_get lengths calls ≡ Some free →
      EncoderCall p.state p.piece last free after answer left bytes → last ≡ is_none p.later → empty ≡ is_input_empty answer →
      items' ≡ items ++ (map Byte bytes ++ reported answer) → finished ≡ ends_run p empty → p' ≡ place_after p after empty left →
      EncodeReaches from lengths (calls + 1) items' finished p'
  reaches_call r given c l e i f q = rw (i, f, q, e) (called calls items p r free given after answer left bytes (rw l at c))

-- the events of what is unread and of the pieces after it
abbrev pub encoded_ahead : RunPlace EncoderState → List EncodeEvent
encoded_ahead p = encoded p.state (p.piece ++ joined p.later) true

pub place_before-encoded : (s : EncoderState) (pieces : List (List ℕ)) → encoded_ahead (place_before s pieces) ≡ encoded s (joined pieces) true
place_before-encoded s pieces = grind arith

-- after a call the same scalars are ahead, without those that it read
place_after-encoded : (p : RunPlace EncoderState) (after : EncoderState) (answer : EncoderResult) (left : List ℕ) → (answer ≡ InputEmpty → left ≡ []) →
    encoded after (left ++ joined p.later) true ≡ encoded_ahead (place_after p after (is_input_empty answer) left)
place_after-encoded p after answer left h = grind (arith, place_before-encoded)

module _ {from : RunPlace EncoderState} {lengths : List ℕ} where
  -- the events up to a place, and then those of what is ahead, are all events
  pub reaches-encoded : {calls : ℕ} {events : List EncodeEvent} {finished : Bool} {p : RunPlace EncoderState} →
      EncodeReaches from lengths calls events finished p → encoded_ahead from ≡ events ++ encoded_ahead p
  reaches-encoded begun = refl
  reaches-encoded (called calls events p r free e after answer left bytes c) =
      let one = c.events (joined p.later) true (λ l. inl (ap joined (last_empty p.later (told_end-last (is_none p.later) answer l)), refl)) in
      let two = place_after-encoded p after answer left (λ q. (c.input_empty q).0) in
      reaches-encoded r ∙ rw (one, two) (simp append_assoc)

  -- a finished run is past all pieces, and the end has nothing left to write
  pub reaches-finished : {calls : ℕ} {events : List EncodeEvent} {finished : Bool} {p : RunPlace EncoderState} →
      EncodeReaches from lengths calls events finished p → finished ≡ true → (p ≡ place_before p.state []) × HasNoEnd p.state
  reaches-finished h h1 = grind (arith, false≢true, last_empty, place_before-state)

-- the events of a run are a prefix of all events
pub is_encode_beginning : (before : EncoderState) (pieces : List (List ℕ)) {lengths : List ℕ} {calls : ℕ} {finished : Bool} {items : List EncodeEvent}
    {after : EncoderState} →
    IsEncodeRun (place_before before pieces) lengths calls finished items after → IsEncodeBeginning before pieces finished items
is_encode_beginning before pieces r = grind (arith, place_before-encoded, reaches-encoded, reaches-finished, end-encoded)

-- after a finished run nothing is left to write
pub no_end_left : {from : RunPlace EncoderState} {lengths : List ℕ} {calls : ℕ} {finished : Bool} {items : List EncodeEvent} {after : EncoderState} →
    IsEncodeRun from lengths calls finished items after → IsTrue finished → HasNoEnd after
no_end_left r h = subst HasNoEnd r.state (reaches-finished r.reaches h).1

-- a finished run gives all events
pub finished_encodes : {before : EncoderState} {scalars : List ℕ} {answered : List EncodeEvent} → FinishedEncodeRun before scalars answered →
    encoded before scalars true ≡ answered
finished_encodes {before = before} {answered = answered} f =
    let b = is_encode_beginning _ _ f.run in
    ap (λ l. encoded before l true) (sym f.same) ∙ b.whole ∙ ap (λ l. answered ++ l) (b.all refl) ∙ append-nil answered

pub encode_cuts_do_not_matter : EncodeCutsDoNotMatter
encode_cuts_do_not_matter before scalars one other f g = sym (finished_encodes f) ∙ finished_encodes g
