-- Decoding one piece: what holds after each step.
use Rattle.std.proofs.Common.{◌≡◌, ◌∙◌, ℕ, zero, suc, ◌+◌, ◌-◌, ◌≤◌, ◌<◌, List, [], ◌∷◌, ◌++◌, length, take, drop, refl, sym, ap, arith, append_assoc}
use Rattle.std.proofs.{Common.{append-nil, length-append, length-drop, map, get_or, Bool, true, false, Option, inl}, lemmas.List.drop-drop}
use Rattle.std.proofs.{Math.ListN.drop_of_length-le, KnownBytes.{Appends-nil, Appends-trans}}
use Rattle.std.specs.Io.KnownBytes.{Appends}
use Rattle.legacy_base.specs.{declared.results.DecodeEvent.DecodeEvent, declared.results.DecodeEvent.TheVariants.{Scalar, Bad}}
use Rattle.legacy_base.specs.{declared.results.DecoderResult.DecoderResult, declared.results.DecoderResult.TheVariants.{InputEmpty, OutputFull, Malformed}}
use Rattle.legacy_base.specs.{Events.shift, Grammar.events_of, States.DecoderState, Calls.{Progress, DecoderCall, IsMalformedByte, reported_events, out_events}}
use Rattle.legacy_text.specs.EncodingForm.{Utf16, total_unit_count}
use Rattle.legacy_base.proofs.{Shifts.{shift-append, shift-scalars}, Progress.{stay, after_that, at_less, at_last, end_report-last, more_follows}}
use Rattle.legacy_base.proofs.Needs.{lacks_small}
use Rattle.legacy_codecs.proofs.{RunEvents.{placed-append, placed-scalars}, Replaced.length-shift}
use Rattle.legacy_codecs.specs.Runs.{placed}
use Rattle.legacy_streams.proofs.{Whole.{Joins, front_of, front_after}, EventLines.{event_lines-append, event_lines-none}}
use Rattle.legacy_streams.specs.{Lines.{event_lines, malformed_events}, Streams.AppendsFront, Recoding.{input_events, piece_lines, lines_of, RecodesPiece}}
use Rattle.legacy_streams.specs.Recoding.{RecodesFront}

-- `offset` bytes of the piece were decoded. The lines of their events were written, except `pending`, which are the
-- last.
pub record IsPieceUnderWay (before : DecoderState) (piece : List ℕ) (last : Bool) (total : ℕ) (now : DecoderState) (offset : ℕ)
    (pending : List ℕ) (old new : Option (List ℕ)) : Type 0 where
  pub within : offset ≤ length piece
  pub passed : ℕ
  pub events : List DecodeEvent
  pub progress : Progress last before piece passed now (drop offset piece) events
  pub sent : List ℕ
  pub written : Appends old new sent
  pub lines : event_lines (input_events total (length before.held) events) ≡ sent ++ pending

input_events-append : (t h : ℕ) (a b : List DecodeEvent) → input_events t h (a ++ b) ≡ input_events t h a ++ input_events t h b
unfolding input_events
input_events-append t h a b = ap (placed h) (shift-append t a b) ∙ placed-append h (shift t a) (shift t b)

input_events-scalars : (t h : ℕ) (cs : List ℕ) → input_events t h (map Scalar cs) ≡ map Scalar cs
unfolding input_events
input_events-scalars t h cs = ap (placed h) (shift-scalars t cs) ∙ placed-scalars h cs

pub piece_start : (before : DecoderState) (piece : List ℕ) (last : Bool) (total : ℕ) (pending : List ℕ) (old : Option (List ℕ))
    → pending ≡ [] → IsPieceUnderWay before piece last total before 0 pending old old
unfolding input_events placed
piece_start before piece last total pending old e = record {
  within = omega arith;
  passed = 0;
  events = [];
  progress = stay last before piece;
  sent = [];
  written = Appends-nil old;
  lines = event_lines-none ∙ sym e;
}

-- the places of a later piece's events in the whole input
placed-shift : (h passed total held : ℕ) (es : List DecodeEvent) → passed + held ≡ h + total → placed h (shift passed es) ≡ input_events total held es
unfolding placed input_events
placed-shift h passed total held [] e = refl
placed-shift h passed total held (x ∷ es) e = grind (arith, placed-shift h passed total held es)

pub lines_of_none : (before : DecoderState) → lines_of before [] ≡ []
unfolding placed
lines_of_none before = event_lines-none

-- the lines of the input, if a piece was decoded after some bytes
lines-append : (before now : DecoderState) (total passed : ℕ) (xs ys : List DecodeEvent) → passed + length now.held ≡ length before.held + total
    → lines_of before (xs ++ shift passed ys) ≡ lines_of before xs ++ piece_lines total now ys
lines-append before now total passed xs ys e = grind (arith, placed-append, passed, placed-shift, event_lines-append)

module _ {before now : DecoderState} {total : ℕ} (old mid new : Option (List ℕ)) where
  pub lines_join : Joins before now total (λ events. Appends old mid (lines_of before events)) (λ events. Appends mid new (piece_lines total now events))
      (λ events. Appends old new (lines_of before events))
  lines_join = record { join = λ passed xs ys e a b. rw (lines-append before now total passed xs ys e) (Appends-trans _ _ _ _ _ a b) }

  pub lines_front_join : Joins before now total (λ events. Appends old mid (lines_of before events))
      (λ events. AppendsFront mid new (piece_lines total now events)) (λ events. AppendsFront old new (lines_of before events))
  lines_front_join = record { join = λ passed xs ys e a b. rw (lines-append before now total passed xs ys e) (front_after mid _ a b) }

module _ {before : DecoderState} {piece : List ℕ} {last : Bool} {total : ℕ} {now : DecoderState} {offset : ℕ} {pending : List ℕ}
    {old mid : Option (List ℕ)} (u : IsPieceUnderWay before piece last total now offset pending old mid) where
  -- if only a front of the pending lines is written, the piece was decoded in part
  pub piece_front : (new : Option (List ℕ)) (count : ℕ) → Appends mid new (take count pending) → RecodesFront before piece last total now old new
  piece_front new count w = grind (arith, front_after, front_of)

  -- writing `sent` leaves the pending lines after it
  pub piece_sent : {kept : List ℕ} {new : Option (List ℕ)} (sent : List ℕ) → Appends mid new sent → pending ≡ sent ++ kept
      → IsPieceUnderWay before piece last total now offset kept old new
  piece_sent sent w e = grind (arith, append_assoc, Appends-trans)

  -- events more, with their lines
  more_events : (count : ℕ) → offset + count ≤ length piece → {passed : ℕ} {after : DecoderState} {given made : List DecodeEvent}
      → Progress last now (drop offset piece) passed after (drop count (drop offset piece)) given
      → input_events total (length before.held) (shift u.passed given) ≡ made → {more : List ℕ} → more ≡ pending ++ event_lines made
      → IsPieceUnderWay before piece last total after (offset + count) more old mid
  more_events count within {passed} {given = given} {made} way is e = record {
    within = within;
    passed = u.passed + passed;
    events = u.events ++ shift u.passed given;
    progress = rw (← drop-drop count offset piece) (after_that u.progress way);
    sent = u.sent;
    written = u.written;
    lines = grind (arith, input_events-append, event_lines-append, append_assoc, u.lines);
  }

  module _ {after : DecoderState} {answer : DecoderResult} {read : ℕ} {scalars more : List ℕ}
      (c : DecoderCall Utf16 now (drop offset piece) last 1024 after answer read scalars)
      (w : more ≡ pending ++ event_lines (map Scalar scalars ++ reported_events (total + offset + read) answer)) where
    -- the events of the call
    abbrev given : List DecodeEvent
    given = out_events (length now.held + read) scalars answer

    malformed_is : (x : DecoderResult) → answer ≡ x
        → input_events total (length before.held) (shift u.passed (reported_events (length now.held + read) x)) ≡ reported_events (total + offset + read) x
    unfolding input_events placed
    malformed_is x e = grind (arith, c.malformed_sequence, u.progress.counts, u.within, length-drop)

    given_is : input_events total (length before.held) (shift u.passed given) ≡ map Scalar scalars ++ reported_events (total + offset + read) answer
    given_is = grind (arith, shift-append, shift-scalars, input_events-append, input_events-scalars, malformed_is)

    pub piece_step : IsPieceUnderWay before piece last total after (offset + read) more old mid
    piece_step =
        let within : offset + read ≤ length piece = let r = c.within in let v = u.within in omega (arith, length-drop offset piece) in
        more_events read within (at_less (end_report-last last answer _) c.progress) given_is w

    -- after the last call of a piece, all its lines are written
    pub piece_end : (new : Option (List ℕ)) → answer ≡ InputEmpty → Appends mid new more → RecodesPiece before piece last total after old new
    piece_end new e v = grind (arith, piece_step, drop_of_length-le, length-drop, Appends-trans)

    some_cases : (x : DecoderResult) → answer ≡ x → (cs : List ℕ) → scalars ≡ cs → (answer ≡ InputEmpty → ⊥) → 1 ≤ length given
    some_cases InputEmpty e cs f h = absurd (h e)
    some_cases (Malformed a b) e cs f h = rw e (omega (arith, length-append (map Scalar scalars) (Bad (length now.held + read - b - a) a ∷ [])))
    some_cases OutputFull e [] f h =
        let l = lacks_small Utf16 after (drop read (drop offset piece)) last (1024 - total_unit_count Utf16 scalars) (c.output_full e) in
        let z : total_unit_count Utf16 scalars ≡ 0 = rw f refl in
        absurd (omega arith)
    some_cases OutputFull e (d ∷ ds) f h = rw (f, e) (omega arith)

    -- each call that does not end the piece leaves fewer events to decode
    pub piece_less : (answer ≡ InputEmpty → ⊥)
        → length (events_of after.grammar (after.held ++ drop (offset + read) piece)) < length (events_of now.grammar (now.held ++ drop offset piece))
    piece_less h =
        let some = some_cases answer refl scalars refl h in
        let all = ap length (c.progress.events [] (λ _. inl refl)) in
        let counted = rw (append-nil, append-nil, drop-drop, length-append, length-shift) at all in
        omega arith

-- the call, as the function that makes it says it
module _ {before : DecoderState} {piece : List ℕ} {last : Bool} {total : ℕ} {now : DecoderState} {offset : ℕ} {pending : List ℕ}
    {old mid : Option (List ℕ)} (u : IsPieceUnderWay before piece last total now offset pending old mid) {unread : List ℕ} (rest : unread ≡ drop offset piece)
    {after : DecoderState} {answer : DecoderResult} {read : ℕ} {more : List ℕ}
    (call : (given : List ℕ) × DecoderCall Utf16 now unread last 1024 after answer read given
    × (more ≡ pending ++ event_lines (map Scalar given ++ reported_events (total + offset + read) answer))) where
  call_of_rest : DecoderCall Utf16 now (drop offset piece) last 1024 after answer read call.0
  call_of_rest = rw rest at call.1

  pub call_step : IsPieceUnderWay before piece last total after (offset + read) more old mid
  call_step = piece_step u call_of_rest call.2

  pub call_end : (new : Option (List ℕ)) → answer ≡ InputEmpty → Appends mid new more → RecodesPiece before piece last total after old new
  call_end = piece_end u call_of_rest call.2

  pub call_less : (answer ≡ InputEmpty → ⊥)
      → length (events_of after.grammar (after.held ++ drop (offset + read) piece)) < length (events_of now.grammar (now.held ++ drop offset piece))
  call_less = piece_less u call_of_rest call.2

-- ---- bytes that are malformed one by one

shifted_malformed : (k place count : ℕ) → shift k (malformed_events place count) ≡ malformed_events (k + place) count
unfolding malformed_events
shifted_malformed k place zero = refl
shifted_malformed k place (suc count) = grind (arith, shifted_malformed k (place + 1) count)

placed_malformed : (h place count : ℕ) → h ≤ place → placed h (malformed_events place count) ≡ malformed_events (place - h) count
unfolding malformed_events placed
placed_malformed h place zero l = refl
placed_malformed h place (suc count) l = grind (arith, placed_malformed h (place + 1) count)

none_given : (total h passed place : ℕ) → input_events total h (shift passed (malformed_events 0 0)) ≡ malformed_events place 0
unfolding malformed_events placed input_events
none_given total h passed place = refl

malformed_given : (total h passed offset count : ℕ) → (0 < count → passed ≡ h + offset)
    → input_events total h (shift passed (malformed_events 0 count)) ≡ malformed_events (total + offset) count
unfolding input_events
malformed_given total h passed offset zero e = none_given total h passed (total + offset)
malformed_given total h passed offset (suc count) e = grind (arith, shifted_malformed, placed_malformed)

malformed_way : (last : Bool) (state : DecoderState) (bytes : List ℕ) (count : ℕ) → count ≤ length bytes
    → ((k : ℕ) → k < count → IsMalformedByte state (get_or bytes k 0)) → Progress last state bytes count state (drop count bytes) (malformed_events 0 count)
unfolding malformed_events
malformed_way last state bytes zero few malformed_byte = stay last state bytes
malformed_way last state [] (suc count) few malformed_byte = absurd (omega arith)
malformed_way last state (b ∷ bytes) (suc count) few malformed_byte =
    let first = at_last {ended = last} (more_follows bytes (malformed_byte 0 (omega arith)).progress) in
    let rest = malformed_way last state bytes count (omega arith) (λ k l. malformed_byte (suc k) (omega arith)) in
    let all : 1 + count ≡ suc count = omega arith in
    rw (shifted_malformed 1 0 count, all) at (after_that first rest)

-- Lines are written, so that room is made, and then those of bytes that are malformed one by one are added.
pub piece_ahead : (count : ℕ) {before : DecoderState} {piece : List ℕ} {last : Bool} {total : ℕ} {now : DecoderState} {offset : ℕ}
    {pending kept more unread : List ℕ} {old mid new : Option (List ℕ)} → IsPieceUnderWay before piece last total now offset pending old mid
    → (sent : List ℕ) × Appends mid new sent × (pending ≡ sent ++ kept) → unread ≡ drop offset piece → count ≤ length unread
    → ((k : ℕ) → k < count → IsMalformedByte now (get_or unread k 0)) → more ≡ kept ++ event_lines (malformed_events (total + offset) count)
    → IsPieceUnderWay before piece last total now (offset + count) more old new
piece_ahead count {before} {piece} {last} {total} {now} {offset} u sent e few malformed_byte w =
    let s = piece_sent u sent.0 sent.1 sent.2 in
    let bound : count ≤ length (drop offset piece) = rw e at few in
    let alone = rw e at malformed_byte in
    let left = length-drop offset piece in
    let start : 0 < count → s.passed ≡ length before.held + offset =
    λ some. omega (arith, s.progress.counts, ap length (alone 0 some).empty, left, u.within) in
    more_events s count (omega (arith, u.within, bound, left)) (malformed_way last now (drop offset piece) count bound alone)
    (malformed_given total (length before.held) s.passed offset count start) w

-- After these bytes no more events are left than before.
pub piece_malformed_less : (count : ℕ) (now : DecoderState) (piece : List ℕ) (offset : ℕ) {unread : List ℕ} → unread ≡ drop offset piece → count ≤ length unread
    → ((k : ℕ) → k < count → IsMalformedByte now (get_or unread k 0))
    → length (events_of now.grammar (now.held ++ drop (offset + count) piece)) ≤ length (events_of now.grammar (now.held ++ drop offset piece))
piece_malformed_less count now piece offset e few malformed_byte =
    let way = malformed_way false now (drop offset piece) count (rw e at few) (rw e at malformed_byte) in
    let all = ap length (way.events [] (λ f. absurd (let no : false ≡ true = f in cc))) in
    let counted = rw (append-nil, append-nil, drop-drop, length-append, length-shift) at all in
    omega (arith, counted)
