-- Calls of an encoder, one after another.
use Rattle.std.proofs.Common.{◌≡◌, ◌∙◌, ℕ, ◌-◌, ◌<◌, ◌≤◌, List, [], ◌∷◌, ◌++◌, length, map, refl, sym, ap, subst, arith}
use Rattle.std.proofs.Common.{append-nil, append_assoc, length-append, Bool, true, false, IsTrue, inl, inr}
use Rattle.std.proofs.lemmas.Bool.{false≢true}
use Rattle.std.proofs.lemmas.List.Concat.{flat_map-append}
use Rattle.legacy_base.specs.declared.results.EncodeEvent.{EncodeEvent}
use Rattle.legacy_base.specs.declared.results.EncodeEvent.TheVariants.{Byte}
use Rattle.legacy_base.specs.declared.results.EncoderResult.{EncoderResult}
use Rattle.legacy_base.specs.declared.results.EncoderResult.TheVariants.{InputEmpty, OutputFull, Unmappable}
use Rattle.legacy_base.specs.Encoders.{EncoderState, encoded}
use Rattle.legacy_base.specs.EncoderCalls.{EncoderCall, tells_end, reported}
use Rattle.legacy_base.proofs.Beginnings.{begins_later}
use Rattle.legacy_codecs.specs.References.{referenced_bytes, tells_text_end, Gives, ReplacingEncoderCall}
use Rattle.legacy_codecs.specs.declared.results.CoderResult.{CoderResult}
use Rattle.legacy_codecs.specs.declared.results.CoderResult.TheVariants as result
use Rattle.legacy_exports.specs.declared.calls.CallEnd.TheVariants.{Read, Full, Replaced}
use Rattle.legacy_exports.specs.Decoding.{end_of}
use Rattle.legacy_exports.specs.Encoding.{Replacement, question_mark, numeric_reference, bytes_of_event, bytes_of_events, EncodesTo, EncodingCall, LacksBytes}
use Rattle.legacy_exports.specs.Encoding.{ConvertsText}

-- ---- the bytes of events

pub bytes-append : (kind : Replacement) (xs ys : List EncodeEvent) → bytes_of_events kind (xs ++ ys) ≡ bytes_of_events kind xs ++ bytes_of_events kind ys
bytes-append kind xs ys = flat_map-append (bytes_of_event kind) xs ys

bytes-of_bytes : (kind : Replacement) (bs : List ℕ) → bytes_of_events kind (map Byte bs) ≡ bs
bytes-of_bytes kind [] = refl
bytes-of_bytes kind (b ∷ bs) = grind (arith, bytes-of_bytes kind bs)

bytes-references : (events : List EncodeEvent) → bytes_of_events numeric_reference events ≡ referenced_bytes events
bytes-references [] = refl
bytes-references (x ∷ events) = grind (arith, bytes-references events)

-- ---- one call

-- a call with replacement
replacing_encodes : {before : EncoderState} {text : List ℕ} {last : Bool} {free : ℕ} {after : EncoderState} {answer : CoderResult}
    {left written : List ℕ} {found : Bool} →
    ReplacingEncoderCall before text last free after answer left written found →
    EncodesTo numeric_reference (tells_text_end last answer) before text after left written []
replacing_encodes {written = written} c = record {
  taken = c.taken;
  cut = c.cut;
  codec = c.codec;
  out = c.out;
  gives = c.gives;
  bytes = bytes-references c.out ∙ sym c.text ∙ sym (append-nil written);
}

pub replacing_call : {before : EncoderState} {text : List ℕ} {last : Bool} {free : ℕ} {after : EncoderState} (answer : CoderResult)
    {left written : List ℕ} {found : Bool} →
    ReplacingEncoderCall before text last free after answer left written found →
    EncodingCall numeric_reference before text last free after (end_of answer) left written
replacing_call result.InputEmpty c = record { lost = []; encodes = replacing_encodes c; ends = (c.input_empty refl, refl) }
replacing_call result.OutputFull c =
    record { lost = []; encodes = replacing_encodes c; ends = let full = c.output_full refl in inl (refl, full.0, full.1) }

-- the events of a raw call
raw_gives : {before : EncoderState} {text : List ℕ} {last : Bool} {free : ℕ} {after : EncoderState} {answer : EncoderResult} {left written : List ℕ} →
    EncoderCall before text last free after answer left written →
    Gives (tells_end last answer) before text after left (map Byte written ++ reported answer)
raw_gives {before} {after = after} {answer} {left} {written} c more ended h =
    c.events more ended h ∙ sym (append_assoc (map Byte written) (reported answer) (encoded after (left ++ more) ended))

raw_bytes : (written : List ℕ) (answer : EncoderResult) →
    bytes_of_events question_mark (map Byte written ++ reported answer) ≡ written ++ bytes_of_events question_mark (reported answer)
raw_bytes written answer = rw (bytes-append question_mark (map Byte written) (reported answer), bytes-of_bytes question_mark written) refl

-- a raw call, of whose bytes these were written and those are lost
raw_encodes : {before : EncoderState} {text : List ℕ} {last : Bool} {free : ℕ} {after : EncoderState} {answer : EncoderResult} {left bytes : List ℕ}
    (written lost : List ℕ) → bytes ++ bytes_of_events question_mark (reported answer) ≡ written ++ lost →
    EncoderCall before text last free after answer left bytes → EncodesTo question_mark (tells_end last answer) before text after left written lost
raw_encodes {answer = answer} {bytes = bytes} written lost e c = record {
  taken = c.taken;
  cut = c.cut;
  codec = c.codec;
  out = map Byte bytes ++ reported answer;
  gives = raw_gives c;
  bytes = raw_bytes bytes answer ∙ e;
}

module _ {before : EncoderState} {text : List ℕ} {last : Bool} {free : ℕ} {after : EncoderState} {left written : List ℕ} where
  pub raw_empty : EncoderCall before text last free after InputEmpty left written → EncodingCall question_mark before text last free after Read left written
  raw_empty c = record { lost = []; encodes = raw_encodes written [] refl c; ends = (c.input_empty refl, refl) }

  pub raw_full : EncoderCall before text last free after OutputFull left written → EncodingCall question_mark before text last free after Full left written
  raw_full c = record {
    lost = [];
    encodes = raw_encodes written [] refl c;
    ends = let l = c.output_full refl in inl (refl, omega arith, omega arith);
  }

  -- a question mark is written for an unmappable scalar, or lost
  pub raw_marked : {c : ℕ} → EncoderCall before text last free after (Unmappable c) left written →
      EncodingCall question_mark before text last free after Replaced left (written ++ 0x3F ∷ [])
  raw_marked call = record {
    lost = [];
    encodes = let marked = written ++ 0x3F ∷ [] in raw_encodes marked [] (sym (append-nil marked)) call;
    ends = (omega (arith, length-append written (0x3F ∷ [])), refl);
  }

  pub raw_lost : {c : ℕ} → EncoderCall before text last free after (Unmappable c) left written → free ≤ length written →
      EncodingCall question_mark before text last free after Full left written
  raw_lost call h = record { lost = 0x3F ∷ []; encodes = raw_encodes written (0x3F ∷ []) refl call; ends = inr (refl, refl, omega arith) }

-- ---- calls one after another

module _ {kind : Replacement} {ended : Bool} {before : EncoderState} {text : List ℕ} {now : EncoderState} {piece later written : List ℕ}
    (r : EncodesTo kind false before text now (piece ++ later) written []) {after : EncoderState} {left bytes lost : List ℕ}
    (c : EncodesTo kind ended now piece after left bytes lost) (none : IsTrue ended → later ≡ []) where
  pub encodes_more : EncodesTo kind ended before text after (left ++ later) (written ++ bytes) lost
  encodes_more = record {
    taken = r.taken ++ c.taken;
    cut =
        r.cut ∙ ap (λ l. r.taken ++ (l ++ later)) c.cut ∙ ap (λ l. r.taken ++ l) (append_assoc c.taken left later)
        ∙ sym (append_assoc r.taken c.taken (left ++ later));
    codec = c.codec ∙ r.codec;
    out = r.out ++ c.out;
    gives = λ more end h.
        let all = encoded before (text ++ more) end in
        let others = encoded now (piece ++ (later ++ more)) end in
        let last = encoded after (left ++ (later ++ more)) end in
        let first : all ≡ r.out ++ others = r.gives more end (λ f. absurd (false≢true f))
        ∙ ap (λ l. r.out ++ encoded now l end) (append_assoc piece later more) in
        let second : others ≡ c.out ++ last = c.gives (later ++ more) end (λ e. elim (h e) [
          | inl n ↦ inl (rw (none e) n.0, n.1)
          | inr g ↦ inr (begins_later r.out c.out others (rw first at g))
        ]) in
        first ∙ ap (λ l. r.out ++ l) second ∙ sym (append_assoc r.out c.out last)
        ∙ ap (λ l. (r.out ++ c.out) ++ encoded after l end) (sym (append_assoc left later more));
    bytes =
        bytes-append kind r.out c.out ∙ ap (λ l. l ++ bytes_of_events kind c.out) (r.bytes ∙ append-nil written) ∙ ap (λ l. written ++ l) c.bytes
        ∙ sym (append_assoc written bytes lost);
  }

-- ---- what is left

some_events : (kind : Replacement) (out : List EncodeEvent) → 1 ≤ length (bytes_of_events kind out) → 1 ≤ length out
some_events kind [] h = h
some_events kind (x ∷ out) h = omega arith

-- fewer events are left after something was replaced
pub fewer_events : {kind : Replacement} {last : Bool} {now : EncoderState} {piece : List ℕ} {free : ℕ} {after : EncoderState} {left bytes : List ℕ}
    (later : List ℕ) → EncodingCall kind now piece last free after Replaced left bytes →
    length (encoded after (left ++ later) true) < length (encoded now (piece ++ later) true)
fewer_events {kind} {after = after} {left} {bytes} later c =
    let e = c.encodes in
    let rest = encoded after (left ++ later) true in
    let long = ap length (e.gives later true (λ f. absurd (false≢true f))) ∙ length-append e.out rest in
    let some = some_events kind e.out (omega (arith, ap length e.bytes, length-append bytes c.lost, c.ends.0)) in
    omega (arith, long, some)

-- no more events are left after a piece was read
pub no_more_events : {kind : Replacement} {now : EncoderState} {piece : List ℕ} {free : ℕ} {after : EncoderState} {left bytes : List ℕ}
    (later : List ℕ) → EncodingCall kind now piece false free after Read left bytes → (next : List ℕ) → later ≡ next →
    length (encoded after next true) ≤ length (encoded now (piece ++ later) true)
no_more_events {now = now} {piece} {after = after} later c next n =
    let e = c.encodes in
    let gives = rw c.ends.0.0 at (e.gives later true (λ f. absurd (false≢true f))) in
    let long = ap length gives ∙ length-append e.out (encoded after later true) in
    subst (λ l. length (encoded after l true) ≤ length (encoded now (piece ++ later) true)) n (omega (arith, long))

-- the text is shorter after a piece was cut off
pub shorter : (later first rest : List ℕ) → later ≡ first ++ rest → (first ≡ [] → later ≡ []) → (later ≡ [] → IsTrue false) → length rest < length later
shorter later [] rest e some over = absurd (false≢true (over (some refl)))
shorter later (x ∷ first) rest e some over = omega (arith, ap length e, length-append (x ∷ first) rest)

-- ---- the end of a conversion

-- if a call in a piece lacks room, so does one in the rest of the text
pub lacks_bytes_ahead : (kind : Replacement) (s : EncoderState) (xs zs : List ℕ) (last : Bool) (free : ℕ) (lost : List ℕ) → (IsTrue last → zs ≡ []) →
    LacksBytes kind s xs last free lost → LacksBytes kind s (xs ++ zs) true free lost
lacks_bytes_ahead kind s xs zs last free lost h l = grind arith

-- a call with the piece that is unread
module _ {kind : Replacement} {before : EncoderState} {text : List ℕ} {now : EncoderState} {unread done : List ℕ} (later : List ℕ)
    (r : EncodesTo kind false before text now (unread ++ later) done []) {free : ℕ} {after : EncoderState} {left bytes : List ℕ} (all : List ℕ)
    (e : all ≡ done ++ bytes) where
  -- the calls go on with the next piece, or in this one
  pub after_piece : EncodingCall kind now unread false free after Read left bytes → (next : List ℕ) → later ≡ next →
      EncodesTo kind false before text after next all []
  after_piece c next n = let ends = c.ends in let made = encodes_more r c.encodes (λ f. absurd (false≢true f)) in rw (e, ← n) (rw (ends.0.0, ends.1) at made)

  pub after_replaced : {last : Bool} → EncodingCall kind now unread last free after Replaced left bytes →
      EncodesTo kind false before text after (left ++ later) all []
  after_replaced c = let ends = c.ends in let made = encodes_more r c.encodes (λ f. absurd (false≢true f)) in rw e (rw ends.1 at made)

  -- the end of a conversion
  pub text_encoded : (total : ℕ) → EncodingCall kind now unread true free after Read left bytes → later ≡ [] → ConvertsText kind text total before after all
  text_encoded total c none = grind (arith, encodes_more r c.encodes, c.ends)

  pub text_full : (total : ℕ) {last : Bool} → EncodingCall kind now unread last free after Full left bytes → (IsTrue last → later ≡ []) →
      free ≡ total - length done →
      ConvertsText kind text total before after all
  text_full total {last} c none f = grind (arith, lacks_bytes_ahead, c.ends, length-append, encodes_more r c.encodes)
