-- Calls of a decoder, one after another.
use Rattle.std.proofs.Common.{◌≡◌, ◌∙◌, ℕ, ◌+◌, ◌-◌, ◌≤◌, ◌<◌, List, [], ◌∷◌, ◌++◌, length, drop, take, refl, sym, ap, arith}
use Rattle.std.proofs.Common.{◌≢◌, ◌⊎◌, Bool, true, false, ◌||◌, IsTrue, inl, inr, subst}
use Rattle.std.proofs.Common.{map, append-nil, append_assoc, length-append, length-drop, length-take}
use Rattle.std.proofs.{Common.nat_eq, lemmas.Bool.{cases_Bool, Decides.nat_tests}, Math.Bool.{or-true}, Math.Seq.drop-nil, lemmas.List.Folds.drop_split}
use Rattle.std.proofs.lemmas.List.{drop-drop, drop-append-le, drop_all, nil_from_length}
use Rattle.legacy_base.specs.declared.results.DecodeEvent.{DecodeEvent}
use Rattle.legacy_base.specs.declared.results.DecodeEvent.TheVariants.{Scalar, Bad}
use Rattle.legacy_base.specs.declared.results.DecoderResult.{DecoderResult}
use Rattle.legacy_base.specs.declared.results.DecoderResult.TheVariants.{InputEmpty, OutputFull, Malformed}
use Rattle.legacy_base.specs.{Events.shift, Grammar.{Grammar, events_of, as_new}, States.{DecoderState, rests}, DecoderActs.{LacksRoom, full_need_in}}
use Rattle.legacy_base.specs.Calls.{Progress, DecoderCall, IsMalformedSequence, may_report_end, out_events}
use Rattle.legacy_text.specs.EncodingForm.{EncodingForm, code_units, all_code_units, bmp_need}
use Rattle.legacy_text.proofs.CodeUnits.{all_code_units-append}
use Rattle.legacy_base.proofs.Shifts.{shift-append}
use Rattle.legacy_base.proofs.Progress.{stay, at_less, more_follows, after_that}
use Rattle.legacy_codecs.specs.Replacing.{replaced_scalars, has_malformed, may_replace_end, ReplacingDecoderCall}
use Rattle.legacy_codecs.specs.declared.results.CoderResult.{CoderResult}
use Rattle.legacy_codecs.proofs.Replaced.{replaced-append, replaced-shift, replaced-of_scalars, has_malformed-append, has_malformed-shift, length-shift}
use Rattle.legacy_codecs.proofs.Replacements.{reported_scalars, replacement_count, replacement_fits}
use Rattle.legacy_codecs.specs.declared.results.CoderResult.TheVariants as coder
use Rattle.legacy_exports.specs.Decoding.{DecoderKind, raw_calls, replacing_calls, end_of, Decodes, DecodingCall, DecodesSource, HadFullRoom}
use Rattle.legacy_exports.specs.Decoding.{EndsMalformed, FoundMalformed, HadReport, HadMalformed}
use Rattle.legacy_exports.specs.declared.calls.CallEnd.{CallEnd}
use Rattle.legacy_exports.specs.declared.calls.CallEnd.TheVariants.{Read, Full, Replaced}

-- ---- one call

-- a call with replacement
abbrev replacing_decodes : {form : EncodingForm} {before : DecoderState} {source : List ℕ} {last : Bool} {free : ℕ} {after : DecoderState}
    {answer : CoderResult} {read : ℕ} {written : List ℕ} {found : Bool} →
    ReplacingDecoderCall form before source last free after answer read written found → Decodes form last before source after read written
replacing_decodes c = record {
  within = c.within;
  passed = c.passed;
  out = c.out;
  progress = rw (← c.found_is) c.progress;
  allowed = λ _. c.allowed;
  text = c.text;
}

-- it found a malformed sequence, or has room for the bytes held back
replacing_held : {form : EncodingForm} {before : DecoderState} {source : List ℕ} {last : Bool} {free : ℕ} {after : DecoderState} {answer : CoderResult}
    {read : ℕ} {written : List ℕ} {found : Bool} (c : ReplacingDecoderCall form before source last free after answer read written found) →
    0 < read → after.held ≢ [] → IsTrue (has_malformed c.out) ⊎ (full_need_in form before.grammar ≤ free - length written)
replacing_held c some held =
    elim (cases_Bool (has_malformed c.out)) [ inl found ↦ inl found | inr none ↦ inr (c.room_held some (c.found_is ∙ none) held) ]

pub replacing_call : {form : EncodingForm} {before : DecoderState} {source : List ℕ} {last : Bool} {free : ℕ} {after : DecoderState} (answer : CoderResult)
    {read : ℕ} {written : List ℕ} {found : Bool} →
    ReplacingDecoderCall form before source last free after answer read written found →
    DecodingCall replacing_calls form before source last free after (end_of answer) read written
replacing_call {source = source} coder.InputEmpty {read} c =
    let e = c.input_empty refl in
    record {
      decodes = replacing_decodes c;
      ends = (drop_all read source (omega (arith, e.0)), e.1, e.2);
      replaced = λ f. cc;
      room_held = replacing_held c;
    }
replacing_call coder.OutputFull c = record {
  decodes = replacing_decodes c;
  ends = c.output_full refl;
  replaced = λ f. cc;
  room_held = replacing_held c;
}

-- what is written for the events of a raw call
replaced-out : (seen : ℕ) (scalars : List ℕ) (answer : DecoderResult) → replaced_scalars (out_events seen scalars answer) ≡ scalars ++ reported_scalars answer
replaced-out seen scalars answer = grind (arith, replaced-append, replaced-of_scalars)

-- a report at the end is one of a malformed sequence
found-report : (last : Bool) (seen : ℕ) (scalars : List ℕ) (answer : DecoderResult) (left : List ℕ) → IsTrue (may_report_end last answer left) →
    IsTrue (may_replace_end last (has_malformed (out_events seen scalars answer)) left)
found-report last seen scalars answer left h = grind (arith, has_malformed-append, or-true)

-- a report is the last event, and the bytes after the malformed sequence are those held back
ends_malformed : (before after : DecoderState) (read : ℕ) (scalars : List ℕ) (a b : ℕ) → IsMalformedSequence (length before.held + read) after a b →
    EndsMalformed before after read (out_events (length before.held + read) scalars (Malformed a b))
ends_malformed before after read scalars a b m = record {
  earlier = map Scalar scalars;
  place = length before.held + read - b - a;
  size = a;
  is = refl;
  seen = omega (arith, m.held, m.within);
}

-- a raw call, with U+FFFD after it if it reports a malformed sequence
abbrev raw_decodes : {form : EncodingForm} {before : DecoderState} {source : List ℕ} {last : Bool} {free : ℕ} {after : DecoderState} {answer : DecoderResult}
    {read : ℕ} {scalars : List ℕ} (units : List ℕ) → units ≡ all_code_units form (scalars ++ reported_scalars answer) →
    DecoderCall form before source last free after answer read scalars → Decodes form last before source after read units
raw_decodes {before = before} {source} {last} {after = after} {answer} {read} {scalars} units e c =
    let seen = length before.held + read in
    let left = drop read source in
    let out = out_events seen scalars answer in
    record {
      within = c.within;
      passed = c.passed;
      out = out;
      progress = at_less (found-report last seen scalars answer left) c.progress;
      allowed = λ _. c.allowed;
      text = rw (replaced-out seen scalars answer) e;
    }

-- a result that reports nothing adds no code units
quiet : (form : EncodingForm) (scalars units : List ℕ) → units ≡ all_code_units form scalars → units ≡ all_code_units form (scalars ++ [])
quiet form scalars units e = rw (append-nil scalars) e

some_need : (form : EncodingForm) → 1 ≤ bmp_need form
some_need form = grind arith

module _ {form : EncodingForm} {before : DecoderState} {source : List ℕ} {last : Bool} {free : ℕ} {after : DecoderState} {read : ℕ}
    {scalars units : List ℕ} where
  pub raw_empty : units ≡ all_code_units form scalars → DecoderCall form before source last free after InputEmpty read scalars →
      DecodingCall raw_calls form before source last free after Read read units
  raw_empty e c =
      let all = c.input_empty refl in
      record {
        decodes = raw_decodes units (quiet form scalars units e) c;
        ends = (drop_all read source (omega (arith, all.0)), all.1, all.2);
        replaced = λ f. cc;
        room_held = λ some held. inr (rw e (c.room_held some held));
      }

  pub raw_full : units ≡ all_code_units form scalars → DecoderCall form before source last free after OutputFull read scalars →
      DecodingCall raw_calls form before source last free after Full read units
  raw_full e c = record {
    decodes = raw_decodes units (quiet form scalars units e) c;
    ends = rw e (c.output_full refl);
    replaced = λ f. cc;
    room_held = λ some held. inr (rw e (c.room_held some held));
  }

  pub raw_malformed : {a b : ℕ} (marked : List ℕ) → units ≡ all_code_units form scalars → marked ≡ units ++ code_units form 0xFFFD →
      DecoderCall form before source last free after (Malformed a b) read scalars →
      DecodingCall raw_calls form before source last free after Replaced read marked
  raw_malformed {a} {b} marked e f c =
      let one : all_code_units form (0xFFFD ∷ []) ≡ code_units form 0xFFFD = append-nil (code_units form 0xFFFD) in
      let all : marked ≡ all_code_units form (scalars ++ 0xFFFD ∷ []) = rw (all_code_units-append form scalars (0xFFFD ∷ []), one, ← e) f in
      let some : 1 ≤ length marked = omega (arith, ap length f, length-append units (code_units form 0xFFFD), replacement_count form, some_need form) in
      let reported = ends_malformed before after read scalars a b c.malformed_sequence in
      record {
        decodes = raw_decodes marked all c;
        ends = some;
        replaced = λ _. reported;
        room_held = λ _ _. inl reported;
      }

  -- U+FFFD has room after a malformed sequence
  pub raw_roomless : {a b : ℕ} → units ≡ all_code_units form scalars → DecoderCall form before source last free after (Malformed a b) read scalars →
      free < length units + bmp_need form → ⊥
  raw_roomless e c lacks = let fits = replacement_fits c in omega (arith, fits, ap length e, replacement_count form, lacks)

-- ---- calls one after another

-- the same progress if more source follows, or none after the last piece
progress_ahead : (ended : Bool) {s t : DecoderState} {xs ys : List ℕ} {n : ℕ} {out : List DecodeEvent} (zs : List ℕ) →
    (IsTrue ended → zs ≡ []) → Progress ended s xs n t ys out → Progress ended s (xs ++ zs) n t (ys ++ zs) out
progress_ahead false zs h p = more_follows zs p
progress_ahead true {xs} {ys} zs h p = rw (h refl, append-nil xs, append-nil ys) p

-- a malformed sequence at the end of the input, found by the calls before or by this one
found_sooner : (found more : Bool) (count : ℕ) (left : List ℕ) → IsTrue (may_replace_end true found left) →
    IsTrue (may_replace_end true (found || more) (drop count left))
found_sooner found more count left h = grind (arith, drop-nil)

found_now : (found more last : Bool) (left zs : List ℕ) → (IsTrue last → zs ≡ []) → IsTrue (may_replace_end last more left) →
    IsTrue (may_replace_end true (found || more) (left ++ zs))
found_now found more last left zs h i = grind (arith, or-true)

found_last : (found last : Bool) (left zs : List ℕ) → (IsTrue last → zs ≡ []) → IsTrue (may_replace_end last found left) → zs ≡ []
found_last found last left zs h i = grind arith

decodes_start : (form : EncodingForm) (before : DecoderState) (source units : List ℕ) → length units ≡ 0 → Decodes form true before source before 0 units
decodes_start form before source units e = record {
  within = omega arith;
  passed = 0;
  out = [];
  progress = stay _ before source;
  allowed = λ h. h;
  text = nil_from_length units e;
}

module _ {form : EncodingForm} {last : Bool} {before : DecoderState} {source : List ℕ} {now : DecoderState} {read : ℕ} {written : List ℕ}
    (r : Decodes form true before source now read written) {piece : List ℕ} {after : DecoderState} {count : ℕ} {units : List ℕ}
    (c : Decodes form last now piece after count units) (later : List ℕ) (parts : drop read source ≡ piece ++ later) (none : IsTrue last → later ≡ []) where
  -- the bytes left of the piece, and the later ones, are those left of the source
  left_is : drop (read + count) source ≡ drop count piece ++ later
  left_is = sym (drop-drop count read source) ∙ ap (drop count) parts ∙ drop-append-le count piece later c.within

  abbrev out_after : List DecodeEvent
  out_after = r.out ++ shift r.passed c.out

  found_after : has_malformed out_after ≡ (has_malformed r.out || has_malformed c.out)
  found_after = has_malformed-append r.out (shift r.passed c.out) ∙ ap (λ b. has_malformed r.out || b) (has_malformed-shift r.passed c.out)

  -- a malformed sequence was found by the calls before, or by this one
  found_before : IsTrue (has_malformed r.out) → IsTrue (has_malformed out_after)
  found_before h = rw (found_after, h) refl

  found_by_it : IsTrue (has_malformed c.out) → IsTrue (has_malformed out_after)
  found_by_it h = rw (found_after, h) (or-true (has_malformed r.out))

  -- if the call ended with a malformed sequence, the calls up to it did
  ends_after : EndsMalformed now after count c.out → EndsMalformed before after (read + count) out_after
  ends_after m = record {
    earlier = r.out ++ shift r.passed m.earlier;
    place = r.passed + m.place;
    size = m.size;
    is =
        ap (λ l. r.out ++ shift r.passed l) m.is ∙ ap (λ l. r.out ++ l) (shift-append r.passed m.earlier (Bad m.place m.size ∷ []))
        ∙ sym (append_assoc r.out (shift r.passed m.earlier) (Bad (r.passed + m.place) m.size ∷ []));
    seen = omega (arith, m.seen, r.progress.counts, length-drop read source, r.within);
  }

  progress_after : Progress (may_replace_end true (has_malformed out_after) (drop (read + count) source)) before source (r.passed + c.passed) after
      (drop (read + count) source) out_after
  progress_after =
      let unread = drop count piece in
      let sooner = found_sooner (has_malformed r.out) (has_malformed c.out) count (drop read source) in
      let same : drop count (drop read source) ≡ unread ++ later = drop-drop count read source ∙ left_is in
      let one = at_less (rw same at sooner) r.progress in
      let ahead = progress_ahead _ later (found_last (has_malformed c.out) last unread later none) c.progress in
      let found = found_now (has_malformed r.out) (has_malformed c.out) last unread later none in
      rw (found_after, left_is) (after_that (rw parts at one) (at_less found ahead))

  text_after : written ++ units ≡ all_code_units form (replaced_scalars out_after)
  text_after = grind (arith, replaced-append, replaced-shift, all_code_units-append, r.text, c.text)

  abbrev decodes_more : (all : List ℕ) → all ≡ written ++ units → Decodes form true before source after (read + count) all
  decodes_more all e = record {
    within = omega (arith, c.within, r.within, ap length parts, length-append piece later, length-drop read source);
    passed = r.passed + c.passed;
    out = out_after;
    progress = progress_after;
    allowed = λ h. c.allowed (r.allowed h);
    text = e ∙ text_after;
  }

  -- the events of the call are so many fewer than before it
  events_fewer : length (events_of now.grammar (now.held ++ drop read source))
      ≡ length c.out + length (events_of after.grammar (after.held ++ drop (read + count) source))
  events_fewer =
      let unread = drop count piece in
      let ahead = progress_ahead _ later (found_last (has_malformed c.out) last unread later none) c.progress in
      let events = ahead.events [] (λ _. inl refl) in
      let long = ap length events ∙ length-append c.out _ ∙ ap (λ n. length c.out + n) (length-shift c.passed _) in
      rw (parts, left_is) (rw (append-nil, append-nil) at long)

-- code units are those of some event
some_event : (form : EncodingForm) (out : List DecodeEvent) (units : List ℕ) → units ≡ all_code_units form (replaced_scalars out) → 1 ≤ length units →
    1 ≤ length out
some_event form [] units e h = omega (arith, ap length e)
some_event form (x ∷ out) units e h = omega arith

-- ---- the end of a conversion

-- if a call in a piece lacks room, so does one in the rest of the source
lacks_ahead : (form : EncodingForm) (s : DecoderState) (xs zs : List ℕ) (last : Bool) (free : ℕ) → (IsTrue last → zs ≡ []) →
    LacksRoom form s xs last free → LacksRoom form s (xs ++ zs) true free
lacks_ahead form s xs zs last free h l = grind arith

-- nothing comes after the last piece
pub none_later : (end : ℕ) (source : List ℕ) → IsTrue (nat_eq end (length source)) → drop end source ≡ []
none_later end source h = grind (arith, drop_all, nat_tests)

pub at_length : (end : ℕ) (source : List ℕ) → end ≡ length source → IsTrue (nat_eq end (length source))
at_length end source e = grind (arith, nat_tests)

-- a byte past ASCII needs the same as long as the codec stays
full-as_new : (form : EncodingForm) (g : Grammar) → full_need_in form (as_new g) ≡ full_need_in form g
full-as_new form g = grind arith

same_need : (form : EncodingForm) (g h : Grammar) → as_new g ≡ as_new h → full_need_in form g ≡ full_need_in form h
same_need form g h e = sym (full-as_new form g) ∙ ap (full_need_in form) e ∙ full-as_new form h

none_or_some : (n : ℕ) → (n ≡ 0) ⊎ (0 < n)
none_or_some n = grind arith

-- a malformed sequence of the calls before one that read nothing
had_sooner : (kind : DecoderKind) (form : EncodingForm) (source : List ℕ) (before : DecoderState) {read : ℕ} (done : List ℕ) (out : List DecodeEvent)
    (n : ℕ) (all : List ℕ) (found : List DecodeEvent) → read ≡ n → length done ≤ length all → (IsTrue (has_malformed out) → IsTrue (has_malformed found)) →
    HadMalformed kind form source before read done out → HadMalformed kind form source before n all found
had_sooner raw_calls form source before done out n all found same longer f h =
    let moved = subst (λ m. HadReport form source before m done) same h in
    record { stage = moved.stage; earlier = moved.earlier; decodes = moved.decodes; reported = moved.reported; sooner = omega (arith, moved.sooner, longer) }
had_sooner replacing_calls form source before done out n all found same longer f h = f h

-- a malformed sequence of the last call
had_now : (kind : DecoderKind) {form : EncodingForm} {source : List ℕ} {before now after : DecoderState} {n count : ℕ} {all : List ℕ}
    {out : List DecodeEvent} (more : Decodes form true before source after n all) →
    (EndsMalformed now after count out → EndsMalformed before after n more.out) → (IsTrue (has_malformed out) → IsTrue (has_malformed more.out)) →
    FoundMalformed kind now after count out → HadMalformed kind form source before n all more.out
had_now raw_calls {after = after} {all = all} more e f h = record { stage = after; earlier = all; decodes = more; reported = e h; sooner = omega arith }
had_now replacing_calls more e f h = f h

-- a conversion up to the place `read`, with `total` code units in the output
pub record Conversion (kind : DecoderKind) (form : EncodingForm) (source : List ℕ) (total : ℕ) (before now : DecoderState) (read : ℕ) (done : List ℕ)
    : Type 0 where
  pub decodes : Decodes form true before source now read done
  -- no scalar is held back, but at the beginning or after a malformed sequence
  pub rested : (read ≡ 0) ⊎ (HadMalformed kind form source before read done decodes.out ⊎ IsTrue (rests now.grammar now.held))
  pub room_held : now.held ≢ [] →
      (read ≡ 0) ⊎ (HadMalformed kind form source before read done decodes.out ⊎ HadFullRoom form source total before now read)

pub conversion_start : (kind : DecoderKind) (form : EncodingForm) (source : List ℕ) (total : ℕ) (before : DecoderState) (units : List ℕ) → length units ≡ 0 →
    Conversion kind form source total before before 0 units
conversion_start kind form source total before units e =
    record { decodes = decodes_start form before source units e; rested = inl refl; room_held = λ _. inl refl }

-- a call in the piece that ends at `end`, after calls up to the place `read`
module _ {kind : DecoderKind} {form : EncodingForm} {before : DecoderState} {source : List ℕ} {total : ℕ} {now : DecoderState} {read : ℕ} {done : List ℕ}
    (k : Conversion kind form source total before now read done) {end : ℕ} {last : Bool} {free : ℕ} {after : DecoderState} {answer : CallEnd} {count : ℕ}
    {units : List ℕ} (c : DecodingCall kind form now (take (end - read) (drop read source)) last free after answer count units) (within : read ≤ end)
    (none : IsTrue last → drop end source ≡ []) where
  parts : drop read source ≡ take (end - read) (drop read source) ++ drop end source
  parts = drop_split source read end within

  -- the call is in the piece
  pub in_piece : end ≤ length source → read + count ≤ end
  in_piece h = let w = c.decodes.within in omega (arith, length-drop read source, length-take (end - read) (drop read source))

  -- a call that read its piece is at the end of it
  pub whole_piece : answer ≡ Read → end ≤ length source → end ≤ read + count
  whole_piece e h = grind (arith, c.ends, length-drop, length-take)

  -- no events are added
  pub no_more_events : length (events_of after.grammar (after.held ++ drop (read + count) source))
      ≤ length (events_of now.grammar (now.held ++ drop read source))
  no_more_events = omega (arith, events_fewer k.decodes c.decodes (drop end source) parts none)

  -- a replacement is one event less
  pub fewer_events : answer ≡ Replaced → length (events_of after.grammar (after.held ++ drop (read + count) source))
      < length (events_of now.grammar (now.held ++ drop read source))
  fewer_events e =
      grind (arith, c.ends, events_fewer k.decodes c.decodes (drop end source) parts none, some_event form c.decodes.out units c.decodes.text)

  -- bytes that are held back after a call that read none were held back before it
  held_before : count ≡ 0 → after.held ≢ [] → now.held ≢ []
  held_before z held e =
      let piece = take (end - read) (drop read source) in
      let no_bytes : length after.held ≡ 0 = omega (arith, z, ap length e, c.decodes.progress.counts, length-drop count piece) in
      held (nil_from_length after.held no_bytes)

  -- the code units up to the end of the call
  module _ (all : List ℕ) (e : all ≡ done ++ units) (rest : free ≡ total - length done) where
    abbrev more : Decodes form true before source after (read + count) all
    more = decodes_more k.decodes c.decodes (drop end source) parts none all e

    sooner : count ≡ 0 → HadMalformed kind form source before read done k.decodes.out → HadMalformed kind form source before (read + count) all more.out
    sooner z h =
        let longer : length done ≤ length all = omega (arith, ap length e, length-append done units) in
        let found = found_before k.decodes c.decodes (drop end source) parts none in
        had_sooner kind form source before done k.decodes.out (read + count) all more.out (omega (arith, z)) longer found h

    by_it : FoundMalformed kind now after count c.decodes.out → HadMalformed kind form source before (read + count) all more.out
    by_it h =
        had_now kind more (ends_after k.decodes c.decodes (drop end source) parts none) (found_by_it k.decodes c.decodes (drop end source) parts none) h

    -- the bytes held back were read by this call, with the room for them
    held_now : 0 < count → after.held ≢ [] →
        HadMalformed kind form source before (read + count) all more.out ⊎ HadFullRoom form source total before after (read + count)
    held_now some held = elim (c.room_held some held) [
      | inl found ↦ inl (by_it found)
      | inr enough ↦
          let same = same_need form now.grammar before.grammar k.decodes.progress.codec in
          let fits : full_need_in form before.grammar ≤ total - length all = omega (arith, enough, same, rest, ap length e, length-append done units) in
          inr (record { stage = after; earlier = all; decodes = more; rested = inl refl; room = fits })
    ]

    -- or before it
    stage_before : count ≡ 0 → IsTrue (rests now.grammar now.held) → HadFullRoom form source total before now read →
        HadFullRoom form source total before after (read + count)
    stage_before z resting s =
        let place : read ≡ read + count = omega (arith, z) in
        let so : IsTrue (rests s.stage.grammar s.stage.held) = elim s.rested [ inl same ↦ rw same resting | inr r ↦ r ] in
        record {
          stage = s.stage;
          earlier = s.earlier;
          decodes = subst (λ n. Decodes form true before source s.stage n s.earlier) place s.decodes;
          rested = inr so;
          room = s.room;
        }

    -- the bytes held back were held back before the call, which read none
    held_sooner : count ≡ 0 → after.held ≢ [] →
        (read + count ≡ 0)
        ⊎ (HadMalformed kind form source before (read + count) all more.out ⊎ HadFullRoom form source total before after (read + count))
    held_sooner z held = elim (k.room_held (held_before z held)) [
      | inl n ↦ inl (omega (arith, n, z))
      | inr was ↦ elim was [
        | inl found ↦ inr (inl (sooner z found))
        | inr s ↦ elim k.rested [
          | inl n ↦ inl (omega (arith, n, z))
          | inr so ↦ elim so [
            | inl found ↦ inr (inl (sooner z found))
            | inr resting ↦ inr (inr (stage_before z resting s))
          ]
        ]
      ]
    ]

    room_after : after.held ≢ [] → (read + count ≡ 0)
        ⊎ (HadMalformed kind form source before (read + count) all more.out ⊎ HadFullRoom form source total before after (read + count))
    room_after held = elim (none_or_some count) [
      | inl z ↦ held_sooner z held
      | inr some ↦ inr (held_now some held)
    ]

    -- the calls go on
    pub after_read : answer ≡ Read → Conversion kind form source total before after (read + count) all
    after_read f = let ends = rw f at c.ends in record { decodes = more; rested = inr (inr ends.1); room_held = room_after }

    pub after_replaced : answer ≡ Replaced → Conversion kind form source total before after (read + count) all
    after_replaced f = record { decodes = more; rested = inr (inl (by_it (c.replaced f))); room_held = room_after }

    -- the end of a conversion
    pub at_end : answer ≡ Read → IsTrue last → DecodesSource kind form source total before after all
    at_end f is_last =
        let ends = rw f at c.ends in
        let left = left_is k.decodes c.decodes (drop end source) parts none in
        let nothing : drop (read + count) source ≡ [] = rw (left, ends.0, none is_last) refl in
        record { read = read + count; decodes = more; stops = inl (nothing, ends.1, λ _. ends.2 is_last); room_held = room_after }

    pub at_full : answer ≡ Full → DecodesSource kind form source total before after all
    at_full g =
        let unread = drop count (take (end - read) (drop read source)) in
        let lacks : LacksRoom form after unread last (free - length units) = rw g at c.ends in
        let ahead = lacks_ahead form after unread (drop end source) last (free - length units) none lacks in
        let left = left_is k.decodes c.decodes (drop end source) parts none in
        let room : total - length all ≡ free - length units = omega (arith, rest, ap length e, length-append done units) in
        record { read = read + count; decodes = more; stops = inr (rw (left, room) ahead); room_held = room_after }
