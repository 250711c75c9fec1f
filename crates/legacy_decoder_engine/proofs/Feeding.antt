-- A machine that agrees with its grammar and keeps its needs makes the moves that the loop requires.
use Rattle.std.{proofs.Common.{◌≡◌, ◌≢◌, ℕ, suc, List, [], ◌++◌, refl, ap, append-nil, length-append, true, ◌&&◌, Some, ◌∙◌}, specs.Char.{IsScalar, is_ascii}}
use Rattle.std.proofs.{Common.{◌≤◌, ◌∷◌, length, arith, length-drop, drop_of_length-le, All, drop, false, ◌⊎◌, None}, Math.Seq.drop-length}
use Rattle.std.proofs.lemmas.{List.{drop-append-le, nil_from_length, Elements.{All-nil, All-cons}}, Bool.Decides.nat_tests}
use Rattle.legacy_text.specs.EncodingForm.{EncodingForm, Utf8, Utf16, code_units, all_code_units, unit_count, total_unit_count, bmp_need}
use Rattle.legacy_tables.specs.Unicode.{IsByte, AreBytes}
use Rattle.legacy_base.specs.{States.{rests, may_hold, state_of}, declared.results.DecodeEvent.TheVariants.Scalar, Calls.Progress, Fronts.{reads, malformed}}
use Rattle.legacy_base.specs.{Lengths.{LengthQuery, to_utf16, to_utf8, query_form, total_need}, Grammar.{Grammar, events_of}, DecoderActs.takes}
use Rattle.legacy_base.{specs.DecoderActs.{has_marks, act_need, full_need, has_short_ascii, has_reported, full_need_in, HadRoom}, proofs.Needs.release-full}
use Rattle.legacy_base.proofs.GrammarLaws.{may_none, rests-none}
use Rattle.legacy_decoder_engine.specs.{Moves.{Feeds, fed_scalars, Reports}, Feeding.{fed_of, HasScalars, Took}}
use Rattle.legacy_decoder_engine.specs.{Moves.{IsCovered, read_need, Releases, FeedsMalformedByte}, Steps.{Step, step_held, step_length, StepMeets, finish}}
use Rattle.legacy_decoder_engine.{specs.{Shown.IsShown, StatesAfterSteps.{IsOneOrMarked, Settles}}, proofs.{NeedMoves.all_needs, CallUnderWay.same_needs}}
use Rattle.legacy_decoder_engine.specs.{Steps.DecoderMachine, StepUnits.{units, step_units}}
use Rattle.legacy_decoder_engine.specs.declared.moves.Fed.{Fed, TheVariants.{One, Two, MalformedSequence}}

-- the code units of scalars, counted one by one
pub units-total : (form : EncodingForm) (cs : List ℕ) → units (unit_count form) cs ≡ total_unit_count form cs
units-total form [] = refl
units-total form (c ∷ cs) = omega (arith, length-append (code_units form c) (all_code_units form cs), units-total form cs)

-- a byte needs less than the full need only if it is ASCII and nothing is held back; then it is its own scalar
module _ (narrow wide : ℕ) {g : Grammar} {m : DecoderMachine} (shown : IsShown g m) (b : ℕ) (unreported : has_reported g ≡ false) where
  short_or_usual : (held : List ℕ) → (full_need narrow wide g ≤ act_need narrow wide (state_of g held) (takes b))
      ⊎ (((has_short_ascii g && is_ascii b) ≡ true) × (m.step held b ≡ finish (reads 1 (b ∷ []))))
  short_or_usual held = grind (arith, nat_tests)

had_usual : (form : EncodingForm) (g : Grammar) (free : ℕ) (cs : List ℕ) → IsOneOrMarked (has_marks g) cs → full_need_in form g ≤ free
    → HadRoom form g None free cs
unfolding HadRoom
had_usual form g free cs h h1 = grind (arith, nat_tests)

pub all_dropped : (n : ℕ) (held : List ℕ) (b : ℕ) → n ≡ suc (length held) → drop n (held ++ b ∷ []) ≡ []
all_dropped n held b e = drop_of_length-le (held ++ b ∷ []) (omega (arith, e, length-append held (b ∷ [])))

all_scalars : (fed : Fed) → HasScalars fed → All IsScalar (fed_scalars fed)
all_scalars (One c) h = All-cons IsScalar c [] h (All-nil IsScalar)
all_scalars (Two c d) h = All-cons IsScalar c (d ∷ []) h.0 (All-cons IsScalar d [] h.1 (All-nil IsScalar))
all_scalars fed h = All-nil IsScalar

module _ {g : Grammar} {m : DecoderMachine} (shown : IsShown g m) (held : List ℕ) (may : may_hold g held ≡ true) (bytes : AreBytes held) where
  -- no next act needs more than the total need of a query
  pub covered : IsCovered (state_of g held)
  covered = record {
    covers = λ query. let needs = shown.needs query in
        all_needs _ _ (total_need query (state_of g held)) g m shown.meets (rests-none g) held may (λ b n. needs.reads_covered held b n may)
        (λ n. needs.holds_covered held n may);
  }

  module _ (b : ℕ) (byte : IsByte b) (resting : rests g held ≡ true) where
    facts : (s : Step) → m.step held b ≡ s → StepMeets g held b s (m.to held b) × Settles (m.to held b) held b s
    facts s e = rw (← e) (shown.meets.steps held b may resting, shown.settles held b may resting)

    fits_step : (form : EncodingForm) (s : Step) → m.step held b ≡ s → step_units (unit_count form) (bmp_need form) s ≤ read_need form (state_of g held) b
    fits_step Utf8 s e = rw e at ((shown.needs to_utf8).step_fits held b may resting bytes byte)
    fits_step Utf16 s e = rw e at ((shown.needs to_utf16).step_fits held b may resting bytes byte)

    had_is : (form : EncodingForm) (free : ℕ) (s : Step) → m.step held b ≡ s → read_need form (state_of g held) b ≤ free
        → HadRoom form g None free (fed_scalars (fed_of s held b))
    unfolding HadRoom
    had_is form free (finish (reads n cs)) e le = grind (arith, short_or_usual, had_usual, facts)
    had_is form free s e le = tt

    step_feeds : (s : Step) → m.step held b ≡ s → All IsScalar (fed_scalars (fed_of s held b))
        → Feeds (state_of g held) b (state_of (m.to held b) (step_held s held b)) (fed_of s held b)
    step_feeds (finish (reads n (c ∷ d ∷ x ∷ cs))) e scalar = absurd (facts _ e).1.1
    step_feeds s e scalar = record {
      passed = step_length s;
      progress = grind (arith, drop-append-le, facts s e, length-drop, append-nil, (shown.same_needs held b).codec);
      holds = grind (arith, facts s e, all_dropped, rests-none);
      allowed = (facts s e).0.allowed;
      needs = shown.same_needs held b;
      empties = grind (arith, facts s e, all_dropped);
      report = λ form. release-full form g;
      full = λ form h. grind (arith, nat_tests, all_dropped, facts s e);
      fits = λ form. omega (arith, fits_step form s e, units-total form (fed_scalars (fed_of s held b)));
      had = λ form free. had_is form free s e;
      scalar = scalar;
      lowers = λ query n.
          let pays = rw e at ((shown.needs query).step_pays held b n may resting bytes byte) in
          omega (arith, pays, units-total (query_form query) (fed_scalars (fed_of s held b)));
    }

    pub feeds : (fed : Fed) (kept : List ℕ) → Took (m.step held b) held b fed kept → Feeds (state_of g held) b (state_of (m.to held b) kept) fed
    feeds fed kept took = rw (took.answer, took.holds) (step_feeds (m.step held b) refl (rw took.answer at (all_scalars fed took.scalar)))

  pub releases : (n c : ℕ) → rests g held ≡ false → m.pending held ≡ Some (n, c) → IsScalar c → Releases (state_of g held) (state_of g (drop n held)) c
  releases n c r e scalar =
      let progress : Progress false (state_of g held) [] n (state_of g (drop n held)) [] (Scalar c ∷ []) = grind (arith, append-nil) in
      let pays = λ (query : LengthQuery). rw e at ((shown.needs query).write_pays held may r bytes) in
      grind (arith, same_needs, pays to_utf8, pays to_utf16, pays)

  pub reports_all : rests g held ≡ true → held ≢ [] → Reports (state_of g held) (state_of g []) (length held) 0
  reports_all r some = by_held held may r some where
    by_held : (l : List ℕ) → may_hold g l ≡ true → rests g l ≡ true → l ≢ [] → Reports (state_of g l) (state_of g []) (length l) 0
    by_held [] m r' n = absurd (n refl)
    by_held (x ∷ xs) m r' n =
        let ends = shown.meets.ends (x ∷ xs) m r' in
        record {
          passed = length (x ∷ xs);
          holding = λ z. cc;
          progress = record {
            counts = omega arith;
            rest = grind (arith, drop-length);
            codec = refl;
            events = λ more l. grind (arith, l refl, shown.meets.reports (x ∷ xs) more m r', append-nil (x ∷ xs));
          };
          holds = grind (arith, shown.meets.few (x ∷ xs) m);
          allowed = may_none g;
          lowers = λ query. (shown.needs query).report_pays x xs m r';
        }

  -- at the end of input there is nothing to report if no bytes are held back
  pub ends_none : rests g held ≡ true → held ≡ [] → events_of g held ≡ []
  ends_none r e = shown.meets.ends held may r ∙ rw e refl

  pub ends_empty : length held ≡ 0 → events_of g held ≡ []
  ends_empty e = ap (events_of g) (nil_from_length held e) ∙ shown.meets.ends [] (may_none g) (rests-none g)

  pub ends_some : rests g held ≡ true → held ≢ [] → events_of g held ≢ []
  ends_some r n e = grind (arith, shown.meets.ends held may r)

  -- there is something to report if bytes are held back, even if a scalar is still to be written
  pub ends_held : held ≢ [] → events_of g held ≢ []
  ends_held n =
      let first = λ (p : ℕ × ℕ) (e : m.pending held ≡ Some p). (rw e at (shown.meets.writes held may)).1.goes_on [] in
      grind (arith, append-nil, ends_some, first)

-- a byte that is malformed by itself in the machine, if nothing is held back
pub malformed_byte : {g : Grammar} {m : DecoderMachine} → IsShown g m → (b : ℕ) → IsByte b → m.step [] b ≡ finish (malformed 1) → m.to [] b ≡ g →
    FeedsMalformedByte (state_of g []) b
malformed_byte {g} {m} shown b byte e t =
    let took : Took (m.step [] b) [] b (MalformedSequence 1 0 false) [] = grind arith in
    (refl, rw t at (feeds shown [] (may_none g) (All-nil _) b byte (rests-none g) (MalformedSequence 1 0 false) [] took))
