-- Decoding a whole input: what holds after each piece.
use Rattle.std.proofs.Common.{◌≡◌, ◌∙◌, ◌≤◌, ℕ, ◌+◌, List, [], ◌++◌, length, refl, sym, ap, arith, append-nil, length-append, Bool, true, false, IsTrue}
use Rattle.std.proofs.{Common.{append_assoc, take, drop, take-append-drop, Option, ◌⊎◌, inl, inr}, lemmas.List.{length-take, length-take-le}}
use Rattle.std.proofs.KnownBytes.{Appends-trans, Consumes-nil, Consumes-trans, Consumes-kept, Keeps-refl}
use Rattle.std.specs.Io.KnownBytes.{Appends, Consumes, IsAtEnd, Keeps}
use Rattle.legacy_base.specs.{declared.results.DecodeEvent.DecodeEvent, Events.shift, Grammar.events_of, States.DecoderState, Calls.Progress}
use Rattle.legacy_codecs.specs.WholeTexts.{IsSettled}
use Rattle.legacy_base.proofs.Progress.{stay, after_that, at_last, more_follows}
use Rattle.legacy_streams.specs.Streams.{AppendsFront, AppendsAtLeast, DecodesPiece, DecodesFront, DecodesAll, DecodesBeginning, DecodesPartly}

-- ---- a front of some bytes

pub front_of : {old new : Option (List ℕ)} {bytes : List ℕ} (count : ℕ) → Appends old new (take count bytes) → AppendsFront old new bytes
front_of {bytes = bytes} count w =
    record { sent = take count bytes; unsent = drop count bytes; parts = sym (take-append-drop count bytes); written = w }

pub front_near : (buffer : List ℕ) (count : ℕ) → length buffer ≤ 4096 → length (take count buffer) ≤ 4096
front_near buffer count l = omega (arith, length-take count buffer)

-- after bytes that were written
pub front_after : {old new : Option (List ℕ)} (mid : Option (List ℕ)) (bytes : List ℕ) {more : List ℕ} → Appends old mid bytes → AppendsFront mid new more
    → AppendsFront old new (bytes ++ more)
front_after mid bytes w f = grind (arith, append_assoc, Appends-trans)

-- at least those
pub at_least : {old new : Option (List ℕ)} (mid : Option (List ℕ)) {bytes more : List ℕ} → Appends old mid bytes → AppendsFront mid new more
    → AppendsAtLeast old new bytes
at_least mid w f = record { more = f.sent; written = Appends-trans _ _ _ _ _ w f.written }

-- ---- the input

-- `total` bytes of the input were read and decoded, and `Shown` is true of their events.
pub record Whole (before : DecoderState) (total : ℕ) (now : DecoderState) (left_old left : Option (List ℕ)) (Shown : List DecodeEvent → Type 0) : Type 0 where
  pub bytes : List ℕ
  pub count : length bytes ≡ total
  pub settled : (bytes ≡ []) ⊎ IsSettled now
  pub read : Consumes left_old left bytes
  pub passed : ℕ
  pub events : List DecodeEvent
  pub progress : Progress false before bytes passed now [] events
  pub shown : Shown events

pub whole_start : {before : DecoderState} {left : Option (List ℕ)} {Shown : List DecodeEvent → Type 0} → Shown [] → Whole before 0 before left left Shown
whole_start {before} {left} none =
    record { bytes = []; count = refl; read = Consumes-nil left; passed = 0; events = []; progress = stay false before []; shown = none; settled = inl refl }

-- What is true of all events, if this is true of those before a piece and of those of the piece.
pub record Joins (before now : DecoderState) (total : ℕ) (First Second Both : List DecodeEvent → Type 0) : Type 0 where
  pub join : (passed : ℕ) (xs ys : List DecodeEvent) → passed + length now.held ≡ length before.held + total → First xs → Second ys
      → Both (xs ++ shift passed ys)

module _ {before now : DecoderState} {total : ℕ} {left_old left_mid : Option (List ℕ)} {First : List DecodeEvent → Type 0}
    (w : Whole before total now left_old left_mid First) where
  -- what holds after a failed read
  pub whole_beginning : {left : Option (List ℕ)} (Shown : List DecodeEvent → Type 0) → ((events : List DecodeEvent) → First events → Shown events)
      → Keeps left_mid left → DecodesBeginning before now left_old left Shown
  whole_beginning Shown weaker k = record {
    bytes = w.bytes;
    read = Consumes-kept _ _ _ _ w.read k;
    passed = w.passed;
    events = w.events;
    progress = w.progress;
    shown = weaker w.events w.shown;
    settled = w.settled;
    beginning = λ more. (shift w.passed (events_of _ (_ ++ ([] ++ more))), w.progress.events more (λ f. absurd (let no : false ≡ true = f in cc)));
  }

  abbrev all_events : List DecodeEvent → List DecodeEvent
  all_events events = w.events ++ shift w.passed events

  place : w.passed + length now.held ≡ length before.held + total
  place = omega (arith, w.progress.counts, w.count)

  -- the progress through the bytes that were read, and then into the next piece
  way_on : (last : Bool) (piece : List ℕ) {after : DecoderState} {passed : ℕ} {unread : List ℕ} {events : List DecodeEvent}
      → Progress last now piece passed after unread events
      → Progress last before (w.bytes ++ piece) (w.passed + passed) after unread (all_events events)
  way_on last piece p = after_that (at_last (more_follows piece w.progress)) p

  module _ {piece : List ℕ} {after : DecoderState} {left : Option (List ℕ)} (r : Consumes left_mid left piece) {Second Both : List DecodeEvent → Type 0}
      (j : Joins before now total First Second Both) where
    pub whole_step : {last : Bool} → last ≡ false → DecodesPiece now piece last after Second → Whole before (total + length piece) after left_old left Both
    whole_step e given =
        let p = rw e at given in
        record {
          bytes = w.bytes ++ piece;
          count = length-append w.bytes piece ∙ ap (λ n. n + length piece) w.count;
          read = Consumes-trans _ _ _ _ _ w.read r;
          passed = w.passed + p.passed;
          events = all_events p.events;
          progress = way_on false piece p.progress;
          shown = j.join w.passed w.events p.events place w.shown p.shown;
          settled = inr p.settled;
        }

    pub whole_end : {last : Bool} → IsAtEnd left → last ≡ true → DecodesPiece now piece last after Second → DecodesAll before after left_old left Both
    whole_end at_end e given =
        let p = rw e at given in
        let way = way_on true piece p.progress in
        let ended = p.ended refl in
        let all : events_of before.grammar (before.held ++ (w.bytes ++ piece)) ≡ all_events p.events =
        grind (arith, append-nil, way.events [] (λ _. inl refl), ended) in
        record {
          bytes = w.bytes ++ piece;
          read = Consumes-trans _ _ _ _ _ w.read r;
          at_end = at_end;
          shown = rw all (j.join w.passed w.events p.events place w.shown p.shown);
          passed = w.passed + p.passed;
          progress = rw all way;
          ended = ended;
        }

    -- what holds after a failed write
    pub whole_partly : {Done : List DecodeEvent → Type 0} {last : Bool} → (IsTrue last → IsAtEnd left) → length piece ≤ 4096
        → ((xs ys : List DecodeEvent) → First xs → Second ys → Done xs) → DecodesFront now piece last after Second
        → DecodesPartly before after left_old left Done Both
    unfolding whole_beginning
    whole_partly {Done} {last} at_end near d p =
        let way = way_on last piece p.progress in
        record {
          bytes = w.bytes ++ piece;
          read = Consumes-trans _ _ _ _ _ w.read r;
          last = last;
          at_end = at_end;
          passed = w.passed + p.passed;
          left = p.left;
          events = all_events p.events;
          progress = way;
          shown = j.join w.passed w.events p.events place w.shown p.shown;
          beginning = λ more e. (shift (w.passed + p.passed) (events_of after.grammar (after.held ++ (p.left ++ more))), way.events more (λ l. inl (e l)));
          between = now;
          input_between = left_mid;
          earlier = whole_beginning Done (λ xs first. d xs p.events first p.shown) (Keeps-refl left_mid);
          piece = piece;
          near = near;
          parts = refl;
        }

  -- the next piece is the front of a buffer
  pub whole_next : (buffer : List ℕ) {count : ℕ} {after : DecoderState} {left : Option (List ℕ)} {Second Both : List DecodeEvent → Type 0} {last : Bool}
      → count ≤ length buffer → Consumes left_mid left (take count buffer) → Joins before now total First Second Both → last ≡ false
      → DecodesPiece now (take count buffer) last after Second → Whole before (total + count) after left_old left Both
  whole_next buffer {count} within r j e given =
      let long : length (take count buffer) ≡ count = length-take-le count buffer within in
      rw (← long) (whole_step r j e given)
