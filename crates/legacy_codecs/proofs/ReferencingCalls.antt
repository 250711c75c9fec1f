-- A call that writes references, in progress.
use Rattle.std.proofs.Common.{◌≡◌, ◌∙◌, ℕ, ◌+◌, ◌-◌, ◌≤◌, ◌<◌, List, [], ◌∷◌, ◌++◌, length, map, slice_get, refl, sym, ap, arith, append_assoc}
use Rattle.std.proofs.{Common.{append-nil, length-append, Bool, true, false, IsTrue, Some, inl, inr}, lemmas.Bool.{true≢false, false≢true}}
use Rattle.std.proofs.lemmas.List.{nil_from_length}
use Rattle.std.proofs.{Math.Bool.{or-false, or-true}, Math.Nat.sub-zero}
use Rattle.std.specs.Prelude.{is_some}
use Rattle.legacy_base.specs.{declared.results.EncodeEvent.EncodeEvent, declared.results.EncodeEvent.TheVariants.Byte}
use Rattle.legacy_base.specs.{declared.results.EncoderResult.EncoderResult, declared.results.EncoderResult.TheVariants.{InputEmpty, OutputFull, Unmappable}}
use Rattle.legacy_base.specs.Encoders.{Codec, EncoderState, encoded, encoder_profile, end_bytes, encoder_need, encoder_answer}
use Rattle.legacy_base.specs.EncoderCalls.{EncoderCall, tells_end, reported}
use Rattle.legacy_text.specs.EncodingForm.{EncodingForm, total_unit_count}
use Rattle.legacy_base.proofs.{Beginnings.begins_later, EncoderLaws.{end-encoded, encoder_need-small}}
use Rattle.legacy_codecs.specs.References.{reference, reference_need, referenced_bytes, has_unmappable, Gives, KeepsReserve, LacksReferenceRoom}
use Rattle.legacy_codecs.specs.{References.{ReplacingEncoderCall, UnmappableCalls, raw_result, tells_text_end}, declared.results.CoderResult.CoderResult}
use Rattle.legacy_codecs.specs.References.{UnmappableCalls.{begun, replaced}, LastCall.{made, left_out}}
use Rattle.legacy_codecs.proofs.ReferenceTexts.{referenced-append, referenced-of_bytes, has_unmappable-append, has_unmappable-of_bytes}
use Rattle.legacy_base.specs.declared.results.EncodeEvent.TheVariants as event
use Rattle.legacy_codecs.specs.declared.results.CoderResult.TheVariants as coder

-- ---- what one call adds

-- the bytes that are written for the report of a call
abbrev pub reported_bytes : EncoderResult → List ℕ
reported_bytes InputEmpty = []
reported_bytes OutputFull = []
reported_bytes (Unmappable c) = reference c

-- whether an unmappable scalar was found, including that of this call
abbrev pub found_after : Bool → EncoderResult → Bool
found_after found InputEmpty = found
found_after found OutputFull = found
found_after found (Unmappable c) = true

-- the events of a call
abbrev pub out_events : List ℕ → EncoderResult → List EncodeEvent
out_events bytes answer = map Byte bytes ++ reported answer

referenced-call : (out : List EncodeEvent) (bytes : List ℕ) (answer : EncoderResult) →
    referenced_bytes (out ++ out_events bytes answer) ≡ referenced_bytes out ++ (bytes ++ reported_bytes answer)
referenced-call out bytes answer = grind (arith, referenced-append, referenced-of_bytes, append-nil)

found-call : (out : List EncodeEvent) (bytes : List ℕ) (answer : EncoderResult) →
    found_after (has_unmappable out) answer ≡ has_unmappable (out ++ out_events bytes answer)
found-call out bytes answer = grind (arith, has_unmappable-append, has_unmappable-of_bytes, or-false, or-true)

-- a call with no text reports no unmappable scalar
pub nothing_reported : {before : EncoderState} {last : Bool} {free : ℕ} {after : EncoderState} {c : ℕ} {left bytes : List ℕ} →
    EncoderCall before [] last free after (Unmappable c) left bytes → ⊥
nothing_reported {before} call =
    let e = sym (end-encoded before) ∙ call.events [] true (λ _. inl (refl, refl)) in
    true≢false (rw (has_unmappable-append, or-true) at (ap has_unmappable (sym e) ∙ has_unmappable-of_bytes (end_bytes before)))

-- ---- the result of all calls

no_report : (result : CoderResult) → reported (raw_result result) ≡ []
no_report result = grind arith

no_bytes : (result : CoderResult) → reported_bytes (raw_result result) ≡ []
no_bytes result = grind arith

same_found : (found : Bool) (result : CoderResult) → found ≡ found_after found (raw_result result)
same_found found result = grind arith

same_end : (last : Bool) (result : CoderResult) → tells_end last (raw_result result) ≡ tells_text_end last result
same_end last result = grind arith

is_full : (result : CoderResult) → raw_result result ≡ OutputFull → result ≡ coder.OutputFull
is_full result e = grind arith

-- ---- the need of a reference

-- the reserve is kept by bytes that leave it free, and then by the events after them
reserve-bytes : (free : ℕ) (bytes : List ℕ) (events : List EncodeEvent) → length bytes ≤ free - reference_need → KeepsReserve (free - length bytes) events →
    KeepsReserve free (map Byte bytes ++ events)
unfolding KeepsReserve
reserve-bytes free [] events fits kept = rw sub-zero at kept
reserve-bytes free (b ∷ bytes) events fits kept =
    let less : free - 1 - length bytes ≡ free - length (b ∷ bytes) = omega arith in
    (omega (arith, fits), reserve-bytes (free - 1) bytes events (omega (arith, fits)) (rw less kept))

-- the reserve is kept by two lists of events, one after the other
reserve-append : (free : ℕ) (xs ys : List EncodeEvent) → KeepsReserve free xs → KeepsReserve (free - length (referenced_bytes xs)) ys →
    KeepsReserve free (xs ++ ys)
unfolding KeepsReserve
reserve-append free [] ys a b = rw sub-zero at b
reserve-append free (Byte c ∷ xs) ys a b =
    let less : free - 1 - length (referenced_bytes xs) ≡ free - length (referenced_bytes (Byte c ∷ xs)) = omega arith in
    (a.0, reserve-append (free - 1) xs ys a.1 (rw less b))
reserve-append free (event.Unmappable c ∷ xs) ys a b =
    let less : free - length (reference c) - length (referenced_bytes xs) ≡ free - length (referenced_bytes (event.Unmappable c ∷ xs)) =
    omega (arith, length-append (reference c) (referenced_bytes xs)) in
    (a.0, reserve-append (free - length (reference c)) xs ys a.1 (rw less b))

-- each scalar needs something
scalar_need-some : (codec : Codec) (c : ℕ) → 0 < (encoder_profile codec).scalar_need c
scalar_need-some codec c = grind arith

scalar_left : (s : EncoderState) (left : List ℕ) (last : Bool) → is_some (slice_get left 0) ≡ true → 0 < encoder_need s left last
scalar_left s [] last some = absurd (false≢true some)
scalar_left s (c ∷ left) last some = scalar_need-some s.codec c

-- if nothing is written until an unmappable scalar is found, and too little is free after what was written, one was found
found_if_short : {free : ℕ} {bytes : List ℕ} {found : Bool} → (found ≡ false → bytes ≡ []) → free < length bytes + reference_need → reference_need ≤ free →
    IsTrue found
found_if_short {bytes = bytes} {found = true} none short much = refl
found_if_short {bytes = bytes} {found = false} none short much = let empty = ap length (none refl) in absurd (omega (arith, empty))

-- ---- calls in progress

-- The scalars that are left, the bytes that were written, and whether an unmappable scalar was found.
pub record IsReferencing (before : EncoderState) (source : List ℕ) (last : Bool) (free : ℕ) (now : EncoderState) (left bytes : List ℕ)
    (found : Bool) : Type 0 where
  pub taken : List ℕ
  pub cut : source ≡ taken ++ left
  pub codec : now.codec ≡ before.codec
  pub fits : length bytes ≤ free
  pub out : List EncodeEvent
  pub gives : Gives false before source now left out
  pub text : bytes ≡ referenced_bytes out
  pub reserve : KeepsReserve free out
  pub found_is : found ≡ has_unmappable out
  pub calls : UnmappableCalls before source last free now left bytes
  -- if no unmappable scalar was found, nothing was done yet
  pub untouched : found ≡ false → (now ≡ before) × (left ≡ source) × (bytes ≡ [])
  -- if the room was lacking as the call began, no unmappable scalar was found
  pub unfound : 0 < encoder_need before source last → LacksReferenceRoom before source last free → found ≡ false

pub referencing_start : (before : EncoderState) (source : List ℕ) (last : Bool) (free : ℕ) → IsReferencing before source last free before source [] false
unfolding KeepsReserve
referencing_start before source last free = record {
  taken = [];
  cut = refl;
  codec = refl;
  fits = omega arith;
  out = [];
  gives = λ more ended h. refl;
  text = refl;
  reserve = tt;
  found_is = refl;
  calls = begun;
  untouched = λ _. (refl, refl, refl);
  unfound = λ _ _. refl;
}

module _ {before : EncoderState} {source : List ℕ} {last : Bool} {free : ℕ} {now : EncoderState} {left bytes : List ℕ} {found : Bool}
    (u : IsReferencing before source last free now left bytes found) where
  -- the events after a call that wrote these bytes
  abbrev out_after : List ℕ → EncoderResult → List EncodeEvent
  out_after written answer = u.out ++ out_events written answer

  text_after : (written : List ℕ) (answer : EncoderResult) → bytes ++ (written ++ reported_bytes answer) ≡ referenced_bytes (out_after written answer)
  text_after written answer = ap (λ l. l ++ (written ++ reported_bytes answer)) u.text ∙ sym (referenced-call u.out written answer)

  -- the reserve is kept after a call, if its bytes leave it free and its report keeps it
  reserve_after : (room : ℕ) → room ≡ free - length bytes - reference_need → (written : List ℕ) (answer : EncoderResult) → length written ≤ room →
      KeepsReserve (free - length bytes - length written) (reported answer) → KeepsReserve free (out_after written answer)
  reserve_after room room_is written answer fits kept =
      let done : length (referenced_bytes u.out) ≡ length bytes = ap length (sym u.text) in
      reserve-append free u.out (out_events written answer) u.reserve
      (rw done (reserve-bytes (free - length bytes) written (reported answer) (omega (arith, fits, room_is)) kept))

  -- a call with all the room but what a reference needs
  module _ {room : ℕ} (room_is : room ≡ free - length bytes - reference_need) {after : EncoderState} {rest written : List ℕ} where
    cut_after : (answer : EncoderResult) (c : EncoderCall now left last room after answer rest written) → source ≡ (u.taken ++ c.taken) ++ rest
    cut_after answer c = u.cut ∙ ap (λ l. u.taken ++ l) c.cut ∙ sym (append_assoc u.taken c.taken rest)

    gives_after : (answer : EncoderResult) → EncoderCall now left last room after answer rest written →
        Gives (tells_end last answer) before source after rest (out_after written answer)
    gives_after answer c more ended h =
        let first = u.gives more ended (λ l. let no : false ≡ true = l in cc) in
        first
        ∙ ap (λ l. u.out ++ l) (c.events more ended (λ l. elim (h l) [
          | inl e ↦ inl e
          | inr g ↦ inr (begins_later u.out (out_events written answer) (encoded now (left ++ more) ended) (rw first at g))
        ]))
        ∙ simp append_assoc

    -- if the room was lacking as the call began, this call returns OutputFull and nothing is done
    full_so : (answer : EncoderResult) → EncoderCall now left last room after answer rest written →
        0 < encoder_need before source last → LacksReferenceRoom before source last free →
        (answer ≡ OutputFull) × (rest ≡ source) × (bytes ++ written ≡ []) × (after ≡ before)
    full_so answer c need lacks =
        let n = u.untouched (u.unfound need lacks) in
        let none : length bytes ≡ 0 = ap length n.2 in
        let same : encoder_need now left last ≡ encoder_need before source last = rw (n.0, n.1) refl in
        let full = c.full_at_once (omega arith) in
        (full.0, full.1 ∙ n.1, rw (n.2, full.2) refl, full.3 ∙ n.0)

    -- ---- an unmappable scalar

    pub referencing_step : (c : ℕ) → length (bytes ++ (written ++ reference c)) ≤ free → length bytes + length written + reference_need ≤ free →
        EncoderCall now left last room after (Unmappable c) rest written →
        IsReferencing before source last free after rest (bytes ++ (written ++ reference c)) true
    unfolding KeepsReserve
    referencing_step c fits spare call =
        let x = Unmappable c in
        let some : reference_need ≤ free - length bytes - length written = omega (arith, spare) in
        record {
          taken = u.taken ++ call.taken;
          cut = cut_after x call;
          codec = call.codec ∙ u.codec;
          fits = fits;
          out = out_after written x;
          gives = gives_after x call;
          text = text_after written x;
          reserve = reserve_after room room_is written x call.fits (some, tt);
          found_is = ap (λ b. found_after b x) u.found_is ∙ found-call u.out written x;
          calls = replaced now left bytes u.calls after c rest written (rw room_is at call);
          untouched = λ e. absurd (true≢false e);
          unfound = λ need lacks. let never : x ≡ OutputFull = (full_so x call need lacks).0 in cc;
        }

    pub referencing_less : (c : ℕ) → EncoderCall now left last room after (Unmappable c) rest written →
        length (encoded after rest true) < length (encoded now left true)
    referencing_less c call =
        let f = rw (append-nil left, append-nil rest) at (call.events [] true (λ _. inl (refl, refl))) in
        omega (arith, simp length-append at (ap length f))

    -- ---- the end

    -- with a queried length free, the room is lacking only after an unmappable scalar
    found_if_full : (found : Bool) → (found ≡ false → (now ≡ before) × (left ≡ source) × (bytes ≡ [])) →
        EncoderCall now left last room after OutputFull rest written →
        (form : EncodingForm) (n k : ℕ) → total_unit_count form source ≤ n → encoder_answer form before n ≡ Some k → k + reference_need ≤ free → IsTrue found
    found_if_full found h h1 form n k h2 h3 h4 = grind arith

    pub referencing_end : (result : CoderResult) → EncoderCall now left last room after (raw_result result) rest written →
        ReplacingEncoderCall before source last free after result rest (bytes ++ written) found
    unfolding KeepsReserve
    referencing_end result c =
        let x = raw_result result in
        let long = length-append bytes written in
        let small = encoder_need-small after rest last in
        record {
          taken = u.taken ++ c.taken;
          cut = cut_after x c;
          codec = c.codec ∙ u.codec;
          fits = omega (arith, long, c.fits, u.fits);
          out = out_after written x;
          gives = rw (same_end last result) at (gives_after x c);
          text = rw (no_bytes result, append-nil written) at (text_after written x);
          reserve = reserve_after room room_is written x c.fits (rw (no_report result) tt);
          found_is = u.found_is ∙ same_found (has_unmappable u.out) result ∙ found-call u.out written x;
          calls = record {
            now = now;
            left_before = left;
            written_before = bytes;
            replaced = u.calls;
            bytes = written;
            ends = made after result rest written (rw room_is at c);
            written_is = refl;
          };
          input_empty = λ e. c.input_empty (ap raw_result e);
          output_full = λ e.
              let lacks = c.output_full (ap raw_result e) in (omega (arith, lacks), omega (arith, long, c.fits, u.fits, lacks));
          few = λ e. let lacks = c.output_full (ap raw_result e) in omega (arith, long, c.fits, u.fits, lacks, small);
          full_at_once = λ need l. let full = full_so x c need l in (is_full result full.0, full.1, full.2, u.unfound need l, full.3);
          enough = λ form n k h e f full. found_if_full found u.untouched (rw full at c) form n k h e f;
        }

  -- ---- no room for a reference

  -- no scalar is left, and a call without room shows whether the end has something to write
  pub referencing_done : free < length bytes + reference_need → {after : EncoderState} {rest written : List ℕ} (result : CoderResult) →
      EncoderCall now left last 0 after (raw_result result) rest written → ReplacingEncoderCall before source last free after result rest bytes found
  referencing_done none {after} {rest} {written} result c =
      rw (nil_from_length written (omega (arith, c.fits)), append-nil bytes) at (referencing_end (omega arith) result c)

  -- a scalar is left, and its reference has no room: no call is made
  pub referencing_stops : free < length bytes + reference_need → is_some (slice_get left 0) ≡ true →
      ReplacingEncoderCall before source last free now coder.OutputFull left bytes found
  referencing_stops none some =
      let need = scalar_left now left last some in
      let lacks : LacksReferenceRoom now left last (free - length bytes) = omega (arith, none, need) in
      record {
        taken = u.taken;
        cut = u.cut;
        codec = u.codec;
        fits = u.fits;
        out = u.out;
        gives = u.gives;
        text = u.text;
        reserve = u.reserve;
        found_is = u.found_is;
        calls = record {
          now = now;
          left_before = left;
          written_before = bytes;
          replaced = u.calls;
          bytes = [];
          ends = left_out need lacks;
          written_is = sym (append-nil bytes);
        };
        input_empty = λ e. cc;
        output_full = λ e. (need, lacks);
        few = λ e. omega (arith, none);
        full_at_once = λ n l. let same = u.untouched (u.unfound n l) in (refl, same.1, same.2, u.unfound n l, same.0);
        enough = λ form n k h e f full. found_if_short (λ e. (u.untouched e).2) none (omega (arith, f));
      }

-- the list of scalars is at its end
pub nothing_left : (xs : List ℕ) → is_some (slice_get xs 0) ≡ false → xs ≡ []
nothing_left [] e = refl
nothing_left (x ∷ xs) e = absurd (true≢false e)
