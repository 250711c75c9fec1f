-- The moves of a decoder make a call.
use Rattle.std.proofs.Common.{◌≡◌, ◌∙◌, sym, add-zero, append-nil, drop_of_length-le, length-append, length-drop}
use Rattle.std.proofs.Common.{Bool, true, IsTrue, Some, Option, ◌⊎◌, inl, inr, All}
use Rattle.std.proofs.Common.{◌≢◌, ℕ, suc, ◌+◌, ◌-◌, ◌≤◌, ◌<◌, List, [], ◌∷◌, ◌++◌, length, map, get_or, take, drop, refl, ap, arith, false, None, zero}
use Rattle.std.proofs.lemmas.List.{map-append, drop-drop, drop_more, nil_from_length, Elements.{All-append, All-nil, All-cons}}
use Rattle.std.{proofs.{lemmas.Bool.{true≢false, Decides.nat_tests}, Math.Nat.sub-zero}, specs.{Prelude.if◌then◌else◌, Char.IsScalar}}
use Rattle.legacy_text.{specs.EncodingForm.{EncodingForm, code_units, unit_count, total_unit_count}, proofs.CodeUnits.total_unit_count-append}
use Rattle.legacy_base.specs.{declared.results.DecoderResult.{TheVariants.{InputEmpty, OutputFull, Malformed}, DecoderResult}, Grammar.{Grammar, events_of}}
use Rattle.legacy_base.specs.{declared.results.DecodeEvent.TheVariants.{Scalar, Bad}, States.{DecoderState, may_hold, rests}, DecoderActs.{LacksRoom, HadRoom}}
use Rattle.legacy_base.specs.DecoderActs.{HadRooms, malformed_need, full_need_in, need_in, release_need_in}
use Rattle.legacy_base.specs.Lengths.{LengthQuery, query_form, replacement_units, total_need}
use Rattle.legacy_base.specs.{Lengths.query_answer, Calls.{Progress, DecoderCall, IsMalformedSequence, IsMalformed, HoldsBack, reported_events, may_report_end}}
use Rattle.legacy_base.{specs.Events.shift, proofs.{Needs.{HadRooms-released, need_in-release, need_in-read, need_in-report}, Shifts.shift-scalars}}
use Rattle.legacy_base.proofs.{Progress.{stay, at_last, more_follows, after_that}, Needs.{HadRooms-append, HadRooms-none, need_in-none}}
use Rattle.legacy_base.proofs.Enough.{total_need-answer}
use Rattle.legacy_decoder_engine.specs.{declared.moves.Fed.{TheVariants.{Nothing, MalformedSequence}, Fed}, Moves.RevealsMalformed}
use Rattle.legacy_decoder_engine.specs.Moves.{SameNeeds, Feeds, Releases, Reports, Finishes, IsCovered, HoldsBytes, EndsAt, read_need, fed_scalars, unread_byte}

pub same_needs : (g : Grammar) → SameNeeds g g
same_needs g = record { codec = refl; full = λ form. refl; report = λ form. refl; wants = λ p c. refl }

pub both_needs : (g h k : Grammar) → SameNeeds g h → SameNeeds h k → SameNeeds g k
both_needs g h k a b = record {
  codec = b.codec ∙ a.codec;
  full = λ form. b.full form ∙ a.full form;
  report = λ form. b.report form ∙ a.report form;
  wants = λ previous c. b.wants previous c ∙ a.wants previous c;
}

pub holds_none : (form : EncodingForm) (free : ℕ) (state : DecoderState) → HoldsBytes form free state [] state
unfolding HoldsBytes
holds_none form free state = refl

pub holds_more : (form : EncodingForm) (free : ℕ) (a b c : DecoderState) (bytes : List ℕ) (byte : ℕ) → HoldsBytes form free a bytes b → Feeds b byte c Nothing
    → read_need form b byte ≤ free → HoldsBytes form free a (bytes ++ byte ∷ []) c
unfolding HoldsBytes
holds_more form free a b c [] byte e feeds room = (c, rw e at feeds, rw e at room, refl)
holds_more form free a b c (x ∷ bytes) byte held feeds room = (held.0, held.1, held.2, holds_more form free held.0 b c bytes byte held.3 feeds room)

HadRoom-same : (form : EncodingForm) (g h : Grammar) (previous : Option ℕ) (free : ℕ) (cs : List ℕ) → SameNeeds g h → HadRoom form h previous free cs
    → HadRoom form g previous free cs
unfolding HadRoom
HadRoom-same form g h previous free [] s a = tt
HadRoom-same form g h previous free (c ∷ cs) s a = grind (arith, nat_tests, HadRoom-same form g h (Some c) (free - unit_count form c) cs)

-- A call in progress: the decoder is in the state `now`, has read `read` bytes and has written the scalars.
pub record Going (form : EncodingForm) (last : Bool) (before : DecoderState) (source : List ℕ) (free : ℕ) (now : DecoderState) (read : ℕ)
    (scalars : List ℕ) : Type 0 where
  pub within : read ≤ length source
  pub passed : ℕ
  pub progress : Progress false before source passed now (drop read source) (map Scalar scalars)
  pub resting : rests now.grammar now.held ≡ true
  pub allowed : may_hold now.grammar now.held ≡ true
  pub needs : SameNeeds before.grammar now.grammar
  pub held : 0 < read → now.held ≢ [] → full_need_in form before.grammar ≤ free - total_unit_count form scalars
  pub had : HadRooms form before free scalars
  pub released : rests before.grammar before.held ≡ false → scalars ≢ []
  pub fits : total_unit_count form scalars ≤ free
  pub scalar : All IsScalar scalars
  pub once : LacksRoom form before source last free → (read ≡ 0) × (scalars ≡ []) × (now ≡ before)
  pub lowers : (query : LengthQuery) → query_form query ≡ form → (more : ℕ) →
      total_need query now (length (drop read source) + more) + total_unit_count form scalars ≤ total_need query before (length source + more)

-- a call that writes nothing; without a malformed sequence nothing changes
abbrev Ends : EncodingForm → Bool → DecoderState → List ℕ → ℕ → DecoderState → DecoderResult → ℕ → Type 0
Ends form last s source free next answer n = DecoderCall form s source last free next answer n [] × (IsMalformed answer ⊎ (next ≡ s))

-- a malformed sequence that is reported after `p` more bytes is at a place `p` later, and ends as many bytes before the end
reported_later : (answer : DecoderResult) (next : DecoderState) (p seen later : ℕ) → p + seen ≡ later → HoldsBack seen next answer
    → (shift p (reported_events seen answer) ≡ reported_events later answer) × HoldsBack later next answer
reported_later InputEmpty next p seen later e h = (refl, tt)
reported_later OutputFull next p seen later e h = (refl, tt)
reported_later (Malformed a b) next p seen later e h =
    let place : p + (seen - b - a) ≡ later - b - a = omega (arith, h.within, e) in
    (rw place refl, record { some = h.some; few = h.few; near = h.near; held = h.held; within = omega (arith, h.within, e) })

-- a malformed sequence without another byte is among the held-back bytes
held_before : (answer : DecoderResult) (now next : DecoderState) (n : ℕ) → HoldsBack (length now.held + n) next answer → n ≤ 0 → IsMalformed answer
    → now.held ≢ []
held_before InputEmpty now next n h few m = absurd m
held_before OutputFull now next n h few m = absurd m
held_before (Malformed a b) now next n h few m = λ z. omega (arith, h.some, h.within, few, ap length z)

-- the need of a report at the end of input
at_end : (form : EncodingForm) (s : DecoderState) (last : Bool) → last ≡ true → rests s.grammar s.held ≡ true → events_of s.grammar s.held ≢ []
    → need_in form s [] last ≡ release_need_in form s.grammar
at_end form s last end r some = rw end (need_in-report form s r some)

module _ {form : EncodingForm} {last : Bool} where
  module _ {s : DecoderState} {free : ℕ} where
    pub going_start : {source : List ℕ} → rests s.grammar s.held ≡ true → may_hold s.grammar s.held ≡ true → Going form last s source free s 0 []
    going_start {source} r m = record {
      within = omega arith;
      passed = 0;
      progress = stay false s source;
      resting = r;
      allowed = m;
      needs = same_needs s.grammar;
      held = λ some. absurd (omega (arith, some));
      had = HadRooms-none form s free;
      released = λ e. absurd (true≢false (sym r ∙ e));
      fits = omega arith;
      scalar = All-nil IsScalar;
      once = λ l. (refl, refl, refl);
      lowers = λ query q more. omega arith;
    }

    pub going_release : {source : List ℕ} {now : DecoderState} {c : ℕ} → rests s.grammar s.held ≡ false → release_need_in form s.grammar ≤ free
        → Releases s now c → Going form last s source free now 0 (c ∷ [])
    going_release {source} {now} {c} r enough h =
        let fits = h.fits form in
        let one = append-nil (code_units form c) in
        record {
          within = omega arith;
          passed = h.passed;
          progress = more_follows source h.progress;
          resting = h.resting;
          allowed = h.allowed;
          needs = h.needs;
          held = λ some. absurd (omega (arith, some));
          had = HadRooms-released form s free c r enough;
          released = λ e z. cc;
          fits = omega (arith, ap length one);
          scalar = All-cons IsScalar c [] h.scalar (All-nil IsScalar);
          once = λ l. absurd (omega (arith, l, need_in-release form s source last r));
          lowers = λ query q more. omega (arith, rw q at (h.lowers query (length source + more)), ap length one);
        }

    fed_going : {byte : ℕ} {rest : List ℕ} {next : DecoderState} (fed : Fed) → rests s.grammar s.held ≡ true → Feeds s byte next fed
        → (RevealsMalformed fed → ⊥) → read_need form s byte ≤ free → Going form last s (byte ∷ rest) free next 1 (fed_scalars fed)
    fed_going (MalformedSequence a b unread) r f sound enough = absurd (sound tt)
    fed_going {byte} {rest} {next} fed r f sound enough =
        let needs = need_in-read form s byte rest last r in
        record {
          within = omega arith;
          passed = f.passed;
          progress = more_follows rest f.progress;
          resting = f.holds;
          allowed = f.allowed;
          needs = f.needs;
          held = λ a ne. grind (arith, f.full form (inr ne));
          had = rw r (f.had form free enough);
          released = λ e. absurd (true≢false (sym r ∙ e));
          fits = omega arith;
          scalar = f.scalar;
          once = λ l. absurd (omega arith);
          lowers = λ query q more. grind (arith, f.lowers query (length rest + more));
        }

    -- ---- the acts that end a call

    -- the next act lacks its room
    call_full : {source : List ℕ} → may_hold s.grammar s.held ≡ true → IsCovered s → LacksRoom form s source last free
        → DecoderCall form s source last free s OutputFull 0 []
    call_full {source} m c lacks =
        let never : (query : LengthQuery) → query_form query ≡ form → total_need query s (length source) ≤ free → OutputFull ≢ OutputFull =
        λ query q enough. absurd (omega (arith, rw q at (c.covers query source last), lacks, enough)) in
        let enough : (query : LengthQuery) → query_form query ≡ form → (n k : ℕ) → length source ≤ n → query_answer query s n ≡ Some k → k ≤ free
        → OutputFull ≢ OutputFull =
        λ query q n k le answered most. never query q (omega (arith, total_need-answer query s (length source) n k le answered)) in
        record {
          within = omega arith;
          fits = omega arith;
          scalar = All-nil IsScalar;
          passed = 0;
          progress = stay false s source;
          allowed = m;
          malformed_sequence = tt;
          input_empty = λ e. cc;
          output_full = λ e. rw (sub-zero free) lacks;
          full_at_once = λ l. (refl, refl, refl, refl);
          room_after_malformed = λ f. absurd f;
          room_held = λ some. absurd (omega (arith, some));
          had_room = HadRooms-none form s free;
          lowers = λ query q more z. omega arith;
          suffices = never;
          enough = enough;
        }

    -- all is done
    call_done : may_hold s.grammar s.held ≡ true → rests s.grammar s.held ≡ true → (IsTrue last → events_of s.grammar s.held ≡ [])
        → DecoderCall form s [] last free s InputEmpty 0 []
    call_done m r events =
        record {
          within = omega arith;
          fits = omega arith;
          scalar = All-nil IsScalar;
          passed = 0;
          progress = stay false s [];
          allowed = m;
          malformed_sequence = tt;
          input_empty = λ e. (refl, r, events);
          output_full = λ e. cc;
          full_at_once = λ l. absurd (omega (arith, l, need_in-none form s last r events));
          room_after_malformed = λ f. absurd f;
          room_held = λ some. absurd (omega (arith, some));
          had_room = HadRooms-none form s free;
          lowers = λ query q more z. omega arith;
          suffices = λ query q k e. cc;
          enough = λ query q n k le answered most e. cc;
        }

    -- a malformed sequence is reported, after `n` more bytes
    call_malformed : {source : List ℕ} {next : DecoderState} {a b : ℕ} (n passed : ℕ) → n ≤ length source → may_hold next.grammar next.held ≡ true
        → IsMalformedSequence (passed + length next.held) next a b
        → Progress (may_report_end last (Malformed a b) (drop n source)) s source passed next (drop n source) (Bad (passed - a) a ∷ [])
        → (LacksRoom form s source last free → ⊥) → malformed_need form s.grammar n ≤ free
        → ((query : LengthQuery) → query_form query ≡ form → (more : ℕ) → (IsTrue last → more ≡ 0)
        → total_need query next (length (drop n source) + more) + replacement_units query ≤ total_need query s (length source + more))
        → DecoderCall form s source last free next (Malformed a b) n []
    call_malformed {source} {next} {a} {b} n passed within allowed f progress had room lowers =
        let l = length-drop n source in
        let seen : passed + length next.held ≡ length s.held + n = omega (arith, progress.counts, l, within) in
        let place : length s.held + n - b - a ≡ passed - a = omega (arith, seen, f.held) in
        record {
          within = within;
          fits = omega arith;
          scalar = All-nil IsScalar;
          passed = passed;
          progress = rw place progress;
          allowed = allowed;
          malformed_sequence = rw seen at f;
          input_empty = λ e. cc;
          output_full = λ e. cc;
          full_at_once = λ l. absurd (had l);
          room_after_malformed = λ m. rw (sub-zero free) room;
          room_held = λ some ne. grind (arith, nat_tests, sub-zero free);
          had_room = HadRooms-none form s free;
          lowers = λ query q more z. omega (arith, lowers query q more z);
          suffices = λ query q k e. cc;
          enough = λ query q n k le answered most e. cc;
        }

    -- the next byte reveals a malformed sequence, and is read or not
    call_fed : {byte : ℕ} {rest : List ℕ} {next : DecoderState} {a b n : ℕ} (unread : Bool) → rests s.grammar s.held ≡ true
        → Feeds s byte next (MalformedSequence a b unread) → n ≡ (if unread then 0 else 1) → read_need form s byte ≤ free
        → DecoderCall form s (byte ∷ rest) last free next (Malformed a b) n []
    call_fed {byte} {rest} {next} {a} {b} {n} unread r f read enough =
        let left_is : drop n (byte ∷ rest) ≡ unread_byte byte (MalformedSequence a b unread) ++ rest = grind arith in
        let full = f.full form (inl tt) in
        let needs = need_in-read form s byte rest last r in
        let room : malformed_need form s.grammar n ≤ free = grind (arith, nat_tests) in
        call_malformed n f.passed (grind arith) f.allowed f.holds (at_last (rw left_is (more_follows rest f.progress))) (grind arith) room
        (λ query q more z. grind (arith, f.lowers query (length rest + more), ap length left_is, length-append))

    -- the call ends at the next byte
    pub call_ends : {byte : ℕ} {rest : List ℕ} {next : DecoderState} {n : ℕ} (answer : DecoderResult) → rests s.grammar s.held ≡ true
        → may_hold s.grammar s.held ≡ true → EndsAt form free s byte next answer n → Ends form last s (byte ∷ rest) free next answer n
    call_ends InputEmpty r m ends = absurd ends
    call_ends {byte} {rest} OutputFull r m ends =
        rw (ends.0, ends.1) (call_full m ends.3 (omega (arith, ends.2, need_in-read form s byte rest last r)), inr refl)
    call_ends (Malformed a b) r m ends = (call_fed ends.0 r ends.1 ends.2 ends.3, inl tt)

    -- the held-back bytes are reported at the end of input
    call_report : {next : DecoderState} {a b : ℕ} → last ≡ true → rests s.grammar s.held ≡ true → events_of s.grammar s.held ≢ []
        → release_need_in form s.grammar ≤ free → Reports s next a b → DecoderCall form s [] last free next (Malformed a b) 0 []
    call_report end r some enough f =
        call_malformed 0 f.passed (omega arith) f.allowed f.holds (rw end f.progress) (λ l. omega (arith, l, at_end form s last end r some, enough)) enough
        (λ query q more z. rw (z end) (f.lowers query))

    call_finish : {next : DecoderState} (answer : DecoderResult) → rests s.grammar s.held ≡ true → may_hold s.grammar s.held ≡ true
        → Finishes form s last free next answer → Ends form last s [] free next answer 0
    call_finish InputEmpty h h1 f = rw f.0 (call_done h1 h f.1, inr refl)
    call_finish OutputFull h h1 f = rw f.0 (call_full h1 f.4 (omega (arith, f.3, at_end form s last f.1 h f.2)), inr refl)
    call_finish (Malformed a b) h h1 f = (call_report f.0 h f.1 f.2 f.3, inl tt)

    pub call_full_release : {source : List ℕ} → IsCovered s → may_hold s.grammar s.held ≡ true → rests s.grammar s.held ≡ false
        → free < release_need_in form s.grammar → DecoderCall form s source last free s OutputFull 0 []
    call_full_release {source} c m r lacks = call_full m c (omega (arith, lacks, need_in-release form s source last r))

  -- ---- what follows on a call in progress

  module _ {before : DecoderState} {source : List ℕ} {free : ℕ} {now : DecoderState} {read : ℕ} {scalars : List ℕ}
      (a : Going form last before source free now read scalars) (left : ℕ) (room_is : left + total_unit_count form scalars ≡ free) where
    left_is : left ≡ free - total_unit_count form scalars
    left_is = omega arith

    -- an output without room for the first act still lacks room
    still : LacksRoom form before source last free → LacksRoom form now (drop read source) last left
    still l = let e = a.once l in rw (left_is, e.0, e.1, e.2, sub-zero free) l

    pub going_then : {next : DecoderState} {n : ℕ} {ds : List ℕ} → Going form last now (drop read source) left next n ds → 0 < n
        → Going form last before source free next (read + n) (scalars ++ ds)
    going_then {next} {n} {ds} b some =
        let units = total_unit_count-append form scalars ds in
        record {
          within = omega (arith, a.within, b.within, length-drop read source);
          passed = a.passed + b.passed;
          progress = rw (← drop-drop n read source, map-append Scalar scalars ds, ← shift-scalars a.passed ds) (after_that a.progress b.progress);
          resting = b.resting;
          allowed = b.allowed;
          needs = both_needs _ _ _ a.needs b.needs;
          held = λ h ne. omega (arith, b.held some ne, a.needs.full form, units);
          had = HadRooms-append form _ _ scalars ds a.released a.had
              (HadRoom-same form _ now.grammar None _ ds a.needs (rw (← left_is) (rw a.resting at b.had)));
          released = λ e z. a.released e (nil_from_length scalars (omega (arith, ap length z, length-append scalars ds)));
          fits = omega arith;
          scalar = All-append IsScalar scalars ds a.scalar b.scalar;
          once = λ l. absurd (omega (arith, some, (b.once (still l)).0));
          lowers = λ query q more. rw (← drop-drop n read source) (omega (arith, a.lowers query q more, b.lowers query q more, units));
        }

    -- a call goes on with the act that ends it
    pub call_then : {next : DecoderState} {answer : DecoderResult} {n : ℕ} → Ends form last now (drop read source) left next answer n
        → DecoderCall form before source last free next answer (read + n) scalars
    call_then {next} {answer} {n} ends =
        let c = ends.0 in
        let kind = ends.1 in
        let seen : a.passed + (length now.held + n) ≡ length before.held + (read + n) = omega (arith, a.progress.counts, length-drop read source, a.within) in
        let reported = reported_later answer next a.passed _ _ seen c.malformed_sequence in
        let full = a.needs.full form in
        let l = length-drop read source in
        let was_held = held_before answer now next n c.malformed_sequence in
        let suffices : (query : LengthQuery) → query_form query ≡ form → total_need query before (length source) ≤ free → answer ≢ OutputFull =
        λ query q enough.
        let lower = rw (add-zero (length (drop read source)), add-zero (length source)) at (a.lowers query q 0) in
        c.suffices query q (omega (arith, lower, enough)) in
        record {
          within = omega arith;
          fits = a.fits;
          scalar = a.scalar;
          passed = a.passed + c.passed;
          progress = rw (← drop-drop n read source, ← reported.0) (after_that (at_last a.progress) c.progress);
          allowed = c.allowed;
          malformed_sequence = reported.1;
          input_empty = λ e. let all = c.input_empty e in (omega (arith, all.0, l, a.within), all.1, all.2);
          output_full = λ e. rw (← drop-drop n read source) (omega (arith, c.output_full e));
          full_at_once = λ l.
              let full = c.full_at_once (still l) in
              let none = a.once l in
              (full.0, omega (arith, full.1, none.0), none.1, full.3 ∙ none.2);
          room_after_malformed = λ m. grind (arith, nat_tests, c.room_after_malformed m, a.needs.report form, was_held);
          room_held = λ p ne. grind (arith, nat_tests, c.room_held, was_held);
          had_room = a.had;
          lowers = λ query q more z. rw (← drop-drop n read source) (omega (arith, a.lowers query q more, c.lowers query q more z));
          suffices = suffices;
          enough = λ query q n k le answered most. suffices query q (omega (arith, total_need-answer query before (length source) n k le answered));
        }

    pub going_feed : {next : DecoderState} (fed : Fed) → read < length source → Feeds now (get_or source read 0) next fed → (RevealsMalformed fed → ⊥)
        → read_need form now (get_or source read 0) ≤ left → Going form last before source free next (read + 1) (scalars ++ fed_scalars fed)
    going_feed fed h f sound enough = going_then (rw (drop_more source read 0 h) (fed_going fed a.resting f sound enough)) (omega arith)

    pub call_end : {next : DecoderState} {answer : DecoderResult} → read ≡ length source → Finishes form now last left next answer
        → DecoderCall form before source last free next answer read scalars
    call_end {next} {answer} all f =
        let nothing_left : drop read source ≡ [] = drop_of_length-le source (omega arith) in
        rw (add-zero read) at (call_then {next = next} {answer = answer} {n = 0} (rw nothing_left (call_finish answer a.resting a.allowed f)))

  pub held_going : {before : DecoderState} {source : List ℕ} {free : ℕ} {now : DecoderState} {read : ℕ} {scalars : List ℕ} {next : DecoderState}
      → Going form last before source free now read scalars → (left : ℕ) → left + total_unit_count form scalars ≡ free → (n : ℕ) → n ≤ length (drop read source)
      → HoldsBytes form left now (take n (drop read source)) next → Going form last before source free next (read + n) scalars
  unfolding HoldsBytes
  held_going {read = read} a left room_is zero within holds = rw (holds, add-zero read) a
  held_going {source = source} {read = read} {scalars} a left room_is (suc n) within holds =
      let some : read < length source = omega (arith, within, length-drop read source) in
      let h = rw (drop_more source read 0 some) at holds in
      let step = rw (append-nil scalars) at (going_feed a left room_is Nothing some h.1 (λ x. x) h.2) in
      let place : read + 1 + n ≡ read + suc n = omega arith in
      rw (← place) (held_going {now = h.0} step left room_is n (omega (arith, within, length-drop read source, length-drop (read + 1) source)) h.3)
