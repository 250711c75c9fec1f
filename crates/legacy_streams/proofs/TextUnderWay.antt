-- Decoding an input to text: what holds after each step.
use Rattle.std.proofs.Common.{◌≡◌, ◌∙◌, ℕ, ◌+◌, ◌-◌, ◌≤◌, ◌<◌, List, [], ◌∷◌, ◌++◌, length, take, drop, refl, ap, arith, append-nil, length-append, length-drop}
use Rattle.std.proofs.{Common.{Bool, false, ◌||◌, Option, inl}, KnownBytes.{Appends-nil, Appends-trans}, lemmas.List.drop-drop, Math.ListN.drop_of_length-le}
use Rattle.std.specs.Io.KnownBytes.{Appends}
use Rattle.legacy_base.specs.{declared.results.DecodeEvent.DecodeEvent, Events.shift, Grammar.events_of, States.DecoderState, Calls.Progress}
use Rattle.legacy_text.specs.EncodingForm.{Utf8, all_code_units}
use Rattle.legacy_base.proofs.{Progress.{stay, at_less, after_that}, Needs.lacks_small}
use Rattle.legacy_text.proofs.CodeUnits.{all_code_units-append}
use Rattle.legacy_codecs.specs.{declared.results.CoderResult.CoderResult, declared.results.CoderResult.TheVariants.{InputEmpty, OutputFull}}
use Rattle.legacy_codecs.specs.Replacing.{replaced_scalars, has_malformed, ReplacingDecoderCall}
use Rattle.legacy_codecs.proofs.{Replacements.end_found-last, Replaced.{has_malformed-append, has_malformed-shift}}
use Rattle.legacy_codecs.proofs.Replaced.{replaced-append, replaced-shift, length-shift}
use Rattle.legacy_streams.specs.{Streams.AppendsFront, Text.{text_in_utf8, WritesPiece, WritesFront}}
use Rattle.legacy_streams.proofs.Whole.{Joins, front_of, front_after}

text-none : text_in_utf8 [] ≡ []
unfolding text_in_utf8
text-none = refl

-- shifting the places of events does not change their text
text-append : (xs ys : List DecodeEvent) (k : ℕ) → text_in_utf8 (xs ++ shift k ys) ≡ text_in_utf8 xs ++ text_in_utf8 ys
unfolding text_in_utf8
text-append xs ys k = grind (arith, replaced-append, replaced-shift, all_code_units-append)

found-append : (xs ys : List DecodeEvent) (k : ℕ) → has_malformed (xs ++ shift k ys) ≡ (has_malformed xs || has_malformed ys)
found-append xs ys k = has_malformed-append xs (shift k ys) ∙ ap (λ b. has_malformed xs || b) (has_malformed-shift k ys)

text_is : (events : List DecodeEvent) (written : List ℕ) → written ≡ all_code_units Utf8 (replaced_scalars events) → written ≡ text_in_utf8 events
unfolding text_in_utf8
text_is events written e = e

-- a text that is not empty comes from at least one event
some_event : (events : List DecodeEvent) → 1 ≤ length (text_in_utf8 events) → 1 ≤ length events
unfolding text_in_utf8
some_event [] h = omega arith
some_event (x ∷ events) h = omega arith

-- ---- one piece

-- `offset` bytes of the piece were decoded and the text of their events was written. `found`: whether one of them is a
-- malformed sequence.
pub record TextUnderWay (before : DecoderState) (piece : List ℕ) (last : Bool) (now : DecoderState) (offset : ℕ) (found : Bool)
    (old new : Option (List ℕ)) : Type 0 where
  pub within : offset ≤ length piece
  pub passed : ℕ
  pub events : List DecodeEvent
  pub progress : Progress last before piece passed now (drop offset piece) events
  pub found_is : found ≡ has_malformed events
  pub written : Appends old new (text_in_utf8 events)

pub text_start : (before : DecoderState) (piece : List ℕ) (last : Bool) (old : Option (List ℕ)) → TextUnderWay before piece last before 0 false old old
text_start before piece last old =
    record { within = omega arith; passed = 0; events = []; progress = stay last before piece; found_is = refl; written = rw text-none (Appends-nil old) }

module _ {before : DecoderState} {piece : List ℕ} {last : Bool} {now : DecoderState} {offset : ℕ} {found : Bool} {old mid : Option (List ℕ)}
    (u : TextUnderWay before piece last now offset found old mid)
    {free : ℕ} {after : DecoderState} {answer : CoderResult} {read : ℕ} {written : List ℕ} {more : Bool}
    (c : ReplacingDecoderCall Utf8 now (drop offset piece) last free after answer read written more) where
  -- the progress up to the end of the call
  way_of_call : Progress last before piece (u.passed + c.passed) after (drop (offset + read) piece) (u.events ++ shift u.passed c.out)
  way_of_call = rw (← drop-drop read offset piece) (after_that u.progress (at_less (end_found-last last more _) c.progress))

  -- if only a front of the text of the call is written, the piece was decoded in part
  pub text_front : (new : Option (List ℕ)) (count : ℕ) → Appends mid new (take count written) → WritesFront before piece last after old new
  text_front new count w = record {
    passed = u.passed + c.passed;
    left = drop (offset + read) piece;
    events = u.events ++ shift u.passed c.out;
    progress = way_of_call;
    shown = rw (text-append u.events c.out u.passed, ← text_is c.out written c.text) (front_after mid (text_in_utf8 u.events) u.written (front_of count w));
  }

  -- after the text of the call was written, `offset + read` bytes of the piece are done
  pub text_step : {new : Option (List ℕ)} → Appends mid new written → TextUnderWay before piece last after (offset + read) (found || more) old new
  text_step w = grind (arith, length-drop, way_of_call, found-append, text-append, text_is, Appends-trans)

  -- after the last call of a piece, all its text is written
  pub text_end : (new : Option (List ℕ)) → Appends mid new written → answer ≡ InputEmpty → WritesPiece before piece last after (found || more) old new
  text_end new w e =
      let s = text_step w in
      let done = c.input_empty e in
      let none : drop (offset + read) piece ≡ [] = drop_of_length-le piece (let l = done.0 in omega (arith, length-drop offset piece)) in
      record {
        passed = s.passed;
        events = s.events;
        progress = rw (← none) s.progress;
        shown = (s.found_is, s.written);
        settled = (c.allowed, done.1);
        ended = done.2;
      }

  -- each call that fills the output gives an event
  gave_event : 4 ≤ free → answer ≡ OutputFull → 1 ≤ length c.out
  gave_event h e =
      let l = lacks_small Utf8 after (drop read (drop offset piece)) last (free - length written) (c.output_full e) in
      let t = ap length (text_is c.out written c.text) in
      some_event c.out (omega arith)

  pub text_less : 4 ≤ free → (answer ≡ InputEmpty → ⊥)
      → length (events_of after.grammar (after.held ++ drop (offset + read) piece)) < length (events_of now.grammar (now.held ++ drop offset piece))
  text_less h n =
      let some = gave_event h (grind arith) in
      let all = ap length (c.progress.events [] (λ _. inl refl)) in
      let counted = rw (append-nil, append-nil, drop-drop, length-append, length-shift) at all in
      omega arith

-- ---- the whole input

pub whole_text_start : (old : Option (List ℕ)) → (false ≡ has_malformed []) × Appends old old (text_in_utf8 [])
whole_text_start old = (refl, rw text-none (Appends-nil old))

module _ {before now : DecoderState} {total : ℕ} {found : Bool} (old mid new : Option (List ℕ)) where
  pub text_join : {more : Bool} → Joins before now total (λ events. (found ≡ has_malformed events) × Appends old mid (text_in_utf8 events))
      (λ events. (more ≡ has_malformed events) × Appends mid new (text_in_utf8 events))
      (λ events. ((found || more) ≡ has_malformed events) × Appends old new (text_in_utf8 events))
  text_join = grind (arith, found-append, text-append, Appends-trans)

  pub text_front_join : Joins before now total (λ events. (found ≡ has_malformed events) × Appends old mid (text_in_utf8 events))
      (λ events. AppendsFront mid new (text_in_utf8 events)) (λ events. AppendsFront old new (text_in_utf8 events))
  text_front_join = record { join = λ passed xs ys e one front. rw (text-append xs ys passed) (front_after mid _ one.1 front) }
