-- A call with replacement, in progress.
use Rattle.std.proofs.Common.{◌≡◌, ◌∙◌, ℕ, ◌+◌, ◌-◌, ◌≤◌, ◌<◌, List, [], ◌∷◌, ◌++◌, length, drop, refl, sym, ap, arith, append_assoc, append-nil}
use Rattle.std.proofs.{Common.{length-append, length-drop, add-zero, Bool, true, false, IsTrue, All, cond, nat_eq}, Math.Bool.{or-false, or-true}}
use Rattle.std.proofs.{lemmas.List.drop-drop, Math.Seq.drop-nil, lemmas.List.Elements.{All-append, All-nil, All-cons}}
use Rattle.std.specs.Char.{IsScalar}
use Rattle.legacy_base.specs.declared.results.DecodeEvent.{DecodeEvent}
use Rattle.legacy_base.specs.{declared.results.DecoderResult.DecoderResult, declared.results.DecoderResult.TheVariants.{InputEmpty, OutputFull, Malformed}}
use Rattle.legacy_base.specs.{Events.shift, Grammar.{Grammar, events_of}, States.DecoderState, DecoderActs.LacksRoom}
use Rattle.legacy_base.specs.{DecoderActs.{full_need_in, release_need_in}, Lengths.{query_form, replacement_units, answer_units, total_need}}
use Rattle.legacy_base.specs.Calls.{Progress, DecoderCall, may_report_end, out_events}
use Rattle.legacy_text.specs.EncodingForm.{EncodingForm, code_units, all_code_units, total_unit_count, bmp_need}
use Rattle.legacy_text.proofs.CodeUnits.{encode_3, all_code_units-append}
use Rattle.legacy_base.proofs.{Enough.total_need-answer, Progress.{stay, at_less, after_that}}
use Rattle.legacy_codecs.specs.Replacing.{replaced_scalars, has_malformed, replacing_query, may_replace_end, MalformedCalls, raw_result, ReplacingDecoderCall}
use Rattle.legacy_codecs.specs.Replacing.MalformedCalls.{begun, replaced}
use Rattle.legacy_codecs.proofs.Replaced.{replaced-append, replaced-shift, replaced-of_scalars, malformed_less}
use Rattle.legacy_codecs.proofs.Replaced.{has_malformed-append, has_malformed-shift, has_malformed-of_scalars}
use Rattle.legacy_codecs.specs.declared.results.CoderResult.{CoderResult}
use Rattle.legacy_codecs.specs.declared.results.CoderResult.TheVariants as coder

-- ---- what one call adds

-- the scalar that is written for the report of a call
abbrev pub reported_scalars : DecoderResult → List ℕ
reported_scalars InputEmpty = []
reported_scalars OutputFull = []
reported_scalars (Malformed a b) = 0xFFFD ∷ []

-- whether a malformed sequence was found, including that of this call
abbrev pub found_after : Bool → DecoderResult → Bool
found_after found InputEmpty = found
found_after found OutputFull = found
found_after found (Malformed a b) = true

-- what is written for the events of a call
replaced-call : (k seen : ℕ) (cs : List ℕ) (answer : DecoderResult) → replaced_scalars (shift k (out_events seen cs answer)) ≡ cs ++ reported_scalars answer
replaced-call k seen cs answer = grind (arith, replaced-shift, replaced-append, replaced-of_scalars)

found-call : (events : List DecodeEvent) (k seen : ℕ) (cs : List ℕ) (answer : DecoderResult) →
    found_after (has_malformed events) answer ≡ has_malformed (events ++ shift k (out_events seen cs answer))
found-call events k seen cs answer = grind (arith, has_malformed-shift, has_malformed-append, has_malformed-of_scalars, or-false, or-true)

-- ---- the result of all calls

no_report : (result : CoderResult) → reported_scalars (raw_result result) ≡ []
no_report result = grind arith

same_found : (found : Bool) (result : CoderResult) → found ≡ found_after found (raw_result result)
same_found found result = grind arith

is_full : (result : CoderResult) → raw_result result ≡ OutputFull → result ≡ coder.OutputFull
is_full result e = grind arith

is_empty : (result : CoderResult) → (raw_result result ≡ OutputFull → ⊥) → result ≡ coder.InputEmpty
is_empty result h = grind arith

-- ---- the room for U+FFFD

pub replacement_count : (form : EncodingForm) → length (code_units form 0xFFFD) ≡ bmp_need form
replacement_count form = grind (arith, encode_3)

counted_units : (form : EncodingForm) → replacement_units (replacing_query form) ≡ bmp_need form
counted_units form = grind arith

query_form-is : (form : EncodingForm) → query_form (replacing_query form) ≡ form
query_form-is form = grind arith

-- after a malformed sequence U+FFFD has room
malformed_least : (form : EncodingForm) (g : Grammar) (b : Bool) → bmp_need form ≤ cond b (release_need_in form g) (full_need_in form g)
malformed_least form g b = grind arith

pub replacement_fits : {form : EncodingForm} {before : DecoderState} {source : List ℕ} {last : Bool} {free : ℕ} {after : DecoderState} {a b read : ℕ}
    {scalars : List ℕ} →
    DecoderCall form before source last free after (Malformed a b) read scalars → total_unit_count form scalars + length (code_units form 0xFFFD) ≤ free
replacement_fits {form} {before} {read = read} c = grind (arith, malformed_least, nat_eq, replacement_count)

-- ---- calls in progress

-- Calls in progress: the bytes that were read, whether a malformed sequence was found, and the code units that were
-- written. The destination held `old` with `free` code units free, and now holds `new` with `left` free.
pub record Replaces (form : EncodingForm) (before : DecoderState) (source : List ℕ) (last : Bool) (free : ℕ) (now : DecoderState) (read : ℕ) (found : Bool)
    (old new : List ℕ) (left : ℕ) : Type 0 where
  pub written : List ℕ
  pub contents : new ≡ old ++ written
  pub fits : left + length written ≡ free
  pub within : read ≤ length source
  pub passed : ℕ
  pub out : List DecodeEvent
  pub progress : Progress (may_replace_end last found (drop read source)) before source passed now (drop read source) out
  pub scalar : All IsScalar (replaced_scalars out)
  pub text : written ≡ all_code_units form (replaced_scalars out)
  pub found_is : found ≡ has_malformed out
  pub calls : MalformedCalls form before source last free now read (replaced_scalars out)
  pub untouched : LacksRoom form before source last free → (read ≡ 0) × (written ≡ []) × (found ≡ false) × (now ≡ before)
  pub unfound : found ≡ false → (read ≡ 0) × (written ≡ []) × (now ≡ before)
  pub lowers : (more : ℕ) → (IsTrue last → more ≡ 0) →
      total_need (replacing_query form) now (length (drop read source) + more) + length written
      ≤ total_need (replacing_query form) before (length source + more)

pub replaces_start : (form : EncodingForm) (before : DecoderState) (source : List ℕ) (last : Bool) (free : ℕ) (old : List ℕ) →
    Replaces form before source last free before 0 false old old free
replaces_start form before source last free old = record {
  written = [];
  contents = sym (append-nil old);
  fits = omega arith;
  within = omega arith;
  passed = 0;
  out = [];
  progress = stay false before source;
  scalar = All-nil IsScalar;
  text = refl;
  found_is = refl;
  calls = begun;
  untouched = λ _. (refl, refl, refl, refl);
  unfound = λ _. (refl, refl, refl);
  lowers = λ more _. omega arith;
}

-- if the end of the input may be replaced before a call, it may be after it
still_found : (last found : Bool) (answer : DecoderResult) (count : ℕ) (left : List ℕ) → IsTrue (may_replace_end last found left) →
    IsTrue (may_replace_end last (found_after found answer) (drop count left))
still_found last found answer count left h = grind (arith, drop-nil)

-- the end of the input is replaced only on a last call
pub end_found-last : (last found : Bool) (left : List ℕ) → IsTrue (may_replace_end last found left) → IsTrue last
end_found-last last found left h = grind arith

found_now : (last found : Bool) (answer : DecoderResult) (left : List ℕ) → IsTrue (may_report_end last answer left) →
    IsTrue (may_replace_end last (found_after found answer) left)
found_now last found answer left h = grind arith

module _ {form : EncodingForm} {before : DecoderState} {source : List ℕ} {last : Bool} {free : ℕ} {now : DecoderState} {read : ℕ} {found : Bool}
    {old mid : List ℕ} {left : ℕ} (r : Replaces form before source last free now read found old mid left) where
  -- the events after a call that read `count` bytes
  abbrev out_after : ℕ → List ℕ → DecoderResult → List DecodeEvent
  out_after count scalars answer = r.out ++ shift r.passed (out_events (length now.held + count) scalars answer)

  replaced_after : (count : ℕ) (scalars : List ℕ) (answer : DecoderResult) →
      replaced_scalars (out_after count scalars answer) ≡ replaced_scalars r.out ++ (scalars ++ reported_scalars answer)
  replaced_after count scalars answer = rw (replaced-append, replaced-call r.passed (length now.held + count) scalars answer) refl

  text_after : (count : ℕ) (scalars : List ℕ) (answer : DecoderResult) →
      r.written ++ all_code_units form (scalars ++ reported_scalars answer) ≡ all_code_units form (replaced_scalars (out_after count scalars answer))
  text_after count scalars answer =
      rw (replaced_after count scalars answer, all_code_units-append form (replaced_scalars r.out) (scalars ++ reported_scalars answer), ← r.text) refl

  found_is_after : (count : ℕ) (scalars : List ℕ) (answer : DecoderResult) → found_after found answer ≡ has_malformed (out_after count scalars answer)
  found_is_after count scalars answer = ap (λ b. found_after b answer) r.found_is ∙ found-call r.out r.passed (length now.held + count) scalars answer

  -- what is left is what was free, without what was written
  left_is : left ≡ free - total_unit_count form (replaced_scalars r.out)
  left_is = omega (arith, r.fits, ap length r.text)

  -- a call with the room that is left
  module _ {after : DecoderState} {count : ℕ} {scalars : List ℕ} {answer : DecoderResult}
      (c : DecoderCall form now (drop read source) last left after answer count scalars) where
    progress_after : Progress (may_replace_end last (found_after found answer) (drop (read + count) source)) before source (r.passed + c.passed) after
        (drop (read + count) source)
        (out_after count scalars answer)
    progress_after =
        let first = at_less (still_found last found answer count (drop read source)) r.progress in
        rw (← drop-drop count read source) (after_that first (at_less (found_now last found answer (drop count (drop read source))) c.progress))

    scalar_after : All IsScalar (replaced_scalars (out_after count scalars answer))
    scalar_after =
        let reported : All IsScalar (reported_scalars answer) = grind (arith, All-nil, All-cons) in
        let added = All-append IsScalar scalars (reported_scalars answer) c.scalar reported in
        rw (replaced_after count scalars answer) (All-append IsScalar (replaced_scalars r.out) (scalars ++ reported_scalars answer) r.scalar added)

    within_after : read + count ≤ length source
    within_after = let w = c.within in let v = r.within in omega (arith, length-drop read source)

    lowers_after : (more : ℕ) → (IsTrue last → more ≡ 0) → total_need (replacing_query form) after (length (drop (read + count) source) + more) +
        (total_unit_count form scalars + answer_units (replacing_query form) answer) + length r.written
        ≤ total_need (replacing_query form) before (length source + more)
    lowers_after more h =
        let one = r.lowers more h in
        let two = rw (drop-drop count read source) at (c.lowers (replacing_query form) (query_form-is form) more h) in
        omega (arith, one, two)

    -- if the room was lacking as the calls began, this call returns OutputFull and nothing is done
    full_so : LacksRoom form before source last free →
        (answer ≡ OutputFull) × (read + count ≡ 0) × (r.written ++ all_code_units form scalars ≡ []) × (found ≡ false) × (after ≡ before)
    full_so h =
        let n = r.untouched h in
        let same : left ≡ free = omega (arith, r.fits, ap length n.1) in
        let full = c.full_at_once (rw (n.3, n.0, same) h) in
        (full.0, omega (arith, n.0, full.1), rw (n.1, full.2) refl, n.2, full.3 ∙ n.3)

  -- the contents and the room after a call that wrote these scalars
  module _ (scalars : List ℕ) {stepped : List ℕ} (stepped_is : stepped ≡ mid ++ all_code_units form scalars) where
    contents_now : stepped ≡ old ++ (r.written ++ all_code_units form scalars)
    contents_now = stepped_is ∙ ap (λ l. l ++ all_code_units form scalars) r.contents ∙ append_assoc old r.written (all_code_units form scalars)

    room_now : (left_now : ℕ) → left_now + length stepped ≡ left + length mid → left_now + total_unit_count form scalars ≡ left
    room_now left_now e = omega (arith, ap length stepped_is, length-append mid (all_code_units form scalars))

  module _ {after : DecoderState} {count : ℕ} {scalars stepped : List ℕ} (stepped_is : stepped ≡ mid ++ all_code_units form scalars) where
    -- a malformed sequence, and U+FFFD after it
    module _ {a b : ℕ} (c : DecoderCall form now (drop read source) last left after (Malformed a b) count scalars) where
      pub replaces_step : {left_now left_put : ℕ} → left_now + length stepped ≡ left + length mid → left_put + length (code_units form 0xFFFD) ≡ left_now →
          {put : List ℕ} → put ≡ stepped ++ code_units form 0xFFFD → Replaces form before source last free after (read + count) true old put left_put
      replaces_step {left_now} e f put_is =
          let x = Malformed a b in
          let units = all_code_units form scalars in
          let fffd = code_units form 0xFFFD in
          let all = length-append r.written (units ++ fffd) ∙ ap (λ n. length r.written + n) (length-append units fffd) in
          record {
            written = r.written ++ (units ++ fffd);
            contents =
                rw (put_is, contents_now scalars stepped_is) (simp append_assoc);
            fits = omega (arith, room_now scalars stepped_is left_now e, r.fits, all);
            within = within_after c;
            passed = r.passed + c.passed;
            out = out_after count scalars x;
            progress = progress_after c;
            scalar = scalar_after c;
            text = rw (all_code_units-append form scalars (0xFFFD ∷ []), append-nil fffd) at (text_after count scalars x);
            found_is = found_is_after count scalars x;
            calls =
                rw (replaced_after count scalars x) (replaced now read (replaced_scalars r.out) r.calls after a b count scalars (rw left_is at c));
            untouched = λ h. let never : x ≡ OutputFull = (full_so c h).0 in cc;
            unfound = λ e. cc;
            lowers = λ more h. omega (arith, lowers_after c more h, all, counted_units form, replacement_count form);
          }

      pub replaces_fits : (left_now : ℕ) → left_now + length stepped ≡ left + length mid → length (code_units form 0xFFFD) ≤ left_now
      replaces_fits left_now e = omega (arith, room_now scalars stepped_is left_now e, replacement_fits c)

      pub replaces_less : length (events_of after.grammar (after.held ++ drop (read + count) source)) < length
          (events_of now.grammar (now.held ++ drop read source))
      replaces_less = rw (← drop-drop count read source) (malformed_less c)

    -- ---- the end

    pub replaces_end : (result : CoderResult) → DecoderCall form now (drop read source) last left after (raw_result result) count scalars →
        (written : List ℕ) × ReplacingDecoderCall form before source last free after result (read + count) written found × (stepped ≡ old ++ written)
    replaces_end result c =
        let answer = raw_result result in
        let units = all_code_units form scalars in
        let long = length-append r.written units in
        let query = replacing_query form in
        let low = rw (add-zero (length (drop read source)), add-zero (length source)) at (r.lowers 0 (λ _. refl)) in
        let wide : total_need query before (length source) ≤ free → result ≡ coder.InputEmpty =
        λ h. is_empty result (c.suffices query (query_form-is form) (omega (arith, low, r.fits))) in
        let left_now : left - total_unit_count form scalars ≡ free - length (r.written ++ units) = omega (arith, r.fits, long, c.fits) in (
          r.written ++ units,
          record {
            within = within_after c;
            fits = omega (arith, r.fits, c.fits, long);
            passed = r.passed + c.passed;
            out = out_after count scalars answer;
            progress = rw (← same_found found result) at (progress_after c);
            allowed = c.allowed;
            room_held = λ some none held.
                let n = r.unfound none in
                rw (n.2, left_now) at (c.room_held (omega (arith, some, n.0)) held);
            scalar = scalar_after c;
            text = rw (no_report result, append-nil scalars) at (text_after count scalars answer);
            found_is = same_found found result ∙ found_is_after count scalars answer;
            calls = record {
              now = now;
              read_before = read;
              written_before = replaced_scalars r.out;
              replaced = r.calls;
              count = count;
              scalars = scalars;
              ends = rw left_is at c;
              read_is = refl;
              written_is = rw (no_report result, append-nil scalars) at (replaced_after count scalars answer);
            };
            input_empty = λ e.
                let done = c.input_empty (ap raw_result e) in
                (omega (arith, done.0, r.within, length-drop read source), done.1, done.2);
            output_full = λ e. rw (drop-drop count read source, left_now) at (c.output_full (ap raw_result e));
            full_at_once = λ h. let full = full_so c h in (is_full result full.0, full.1, full.2, full.3, full.4);
            lowers = λ more h. omega (arith, lowers_after c more h, long);
            suffices = wide;
            enough = λ n k h e f. wide (omega (arith, total_need-answer query before (length source) n k h e));
          },
          contents_now scalars stepped_is,
        )
