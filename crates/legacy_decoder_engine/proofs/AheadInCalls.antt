-- Common sequences that are read ahead within a call in progress.
use Rattle.std.proofs.lemmas.List.{take_rest}
use Rattle.std.proofs.lemmas.{List.{drop_more, length-map, take-append-drop, length-take-le, nil_from_length, get_or-drop}, Bool.{cases_lt, true≢false}}
use Rattle.std.proofs.Common.{◌≡◌, ◌∙◌, ◌+◌, ◌<◌, List, [], ◌∷◌, drop, arith, append_assoc, append-nil, add-zero, map, refl, sym, true, subst, inl, inr}
use Rattle.std.proofs.Common.{◌≤◌, length-append, Some, Option, ℕ, ◌-◌, ◌++◌, length, take, ap, get_or, length-drop, Bool, None}
use Rattle.legacy_text.specs.EncodingForm.{EncodingForm, code_units, unit_count, all_code_units, total_unit_count, wide_need}
use Rattle.legacy_text.specs.declared.destination.Destination.{Ghosts}
use Rattle.{legacy_text.proofs.CodeUnits.{all_code_units-append, total_unit_count-append}, legacy_base.specs.States.{DecoderState, new_state, rests}}
use Rattle.legacy_base.specs.{Grammar.{Grammar, events_of}, DecoderActs.HadRoom, Calls.IsDecoderCall, declared.results.DecoderResult.DecoderResult}
use Rattle.legacy_base.specs.declared.results.DecodeEvent.{TheVariants.Scalar}
use Rattle.legacy_base.proofs.{Shifts.shift-zero, GrammarLaws.{rests-none, may_none}, Needs.{lacks_small, full_most}, SameUnits.some_unit}
use Rattle.legacy_decoder_engine.specs.{ReadAhead.{Yields, ReadsTo}, Moves.{HoldsBytes, HasMalformedByte, WritesFed, EndsAt, fed_scalars}}
use Rattle.legacy_decoder_engine.proofs.{CallUnderWay.{Going, going_then, going_feed, held_going, call_then, call_ends}}

wide_most : (form : EncodingForm) → wide_need form ≤ 4
wide_most form = grind arith

-- scalars that leave three free code units were written with room for any act
ample : (form : EncodingForm) (g : Grammar) (previous : Option ℕ) (free : ℕ) (cs : List ℕ) → total_unit_count form cs + 3 ≤ free
    → HadRoom form g previous free cs
unfolding HadRoom
ample form g previous free [] h = tt
ample form g previous free (c ∷ cs) h =
    let units = length-append (code_units form c) (all_code_units form cs) in
    let least = some_unit form c in
    (λ w. omega (arith, h, units, least, full_most form g, wide_most form), ample form g (Some c) (free - unit_count form c) cs (omega (arith, h, units)))

with_empty : (s : DecoderState) → s.held ≡ [] → s ≡ new_state s.grammar
with_empty s e = ap (λ h. record { grammar = s.grammar; held = h }) e

yields_nothing : (g : Grammar) (cs : List ℕ) → Yields g [] cs → cs ≡ []
yields_nothing g cs h =
    let events = ap length (rw shift-zero at (h.events [])) in
    nil_from_length cs (omega (arith, events, length-append (map Scalar cs) (events_of g []), length-map cs Scalar))

-- a call is in progress, and the destination contains what was written
abbrev pub IsUnderWay : {D : Type 0} → Ghosts D → Bool → DecoderState → List ℕ → D → DecoderState → ℕ → D → Type 0
IsUnderWay T last before source first now read new =
    (scalars : List ℕ) × Going T.form last before source (T.room first) now read scalars × (T.contents new ≡ T.contents first ++ all_code_units T.form scalars)
    × (T.room new + total_unit_count T.form scalars ≡ T.room first) × (T.loan new ≡ T.loan first)

module _ {D : Type 0} {T : Ghosts D} {s next : DecoderState} {source : List ℕ} {old new : D} {r : ℕ} (reads : ReadsTo T s next source r old new) where
  pub reads_nothing : r ≡ 0 → reads.writes.scalars ≡ []
  reads_nothing e = yields_nothing s.grammar _ (rw (e, reads.stays e) at reads.writes.yields)

  some_going : {last : Bool} → 0 < r → Going T.form last s source (T.room old) next r reads.writes.scalars
  some_going {last} some =
      let ds = reads.writes.scalars in
      let yields = reads.writes.yields in
      let none = reads.idle some in
      let none' = reads.empties some in
      let long = length-take-le r source reads.within in
      let resting : rests s.grammar s.held ≡ true = rw none (rests-none s.grammar) in
      record {
        within = reads.within;
        passed = r;
        progress = record {
          counts = omega (arith, length-drop r source, ap length none, ap length none', reads.within);
          rest = rw (none, none') refl;
          codec = reads.needs.codec;
          events = λ more h.
              let split : source ++ more ≡ take r source ++ (drop r source ++ more) =
              ap (λ l. l ++ more) (sym (take-append-drop r source)) ∙ append_assoc (take r source) (drop r source) more in
              rw (none, none', split) (rw long at (yields.events (drop r source ++ more)));
        };
        resting = rw none' (rests-none next.grammar);
        allowed = rw none' (may_none next.grammar);
        needs = reads.needs;
        held = λ h ne. absurd (ne none');
        had = rw resting (ample _ _ None _ ds (omega arith));
        released = λ e. absurd (true≢false (sym resting ∙ e));
        fits = omega arith;
        scalar = yields.scalar;
        once = λ l. absurd (omega (arith, reads.had some, lacks_small T.form s source last (T.room old) l, wide_most T.form));
        lowers = λ query q more.
            let count : length (drop r source) + more + length (take r source) ≡ length source + more =
            omega (arith, long, reads.within, length-drop r source) in
            rw (with_empty next none', with_empty s none) (rw (q, count) at (yields.lowers query (length (drop r source) + more)));
      }

module _ {D : Type 0} (T : Ghosts D) {last : Bool} {before : DecoderState} {source : List ℕ} (first : D) {now next : DecoderState} {read : ℕ} {old new : D}
    (i : IsUnderWay T last before source first now read old) where
  writes_on : {k : ℕ} (ds : List ℕ) → Going T.form last before source (T.room first) next k (i.0 ++ ds)
      → T.contents new ≡ T.contents old ++ all_code_units T.form ds → T.room new + total_unit_count T.form ds ≡ T.room old → T.loan new ≡ T.loan old
      → IsUnderWay T last before source first next k new
  writes_on ds going contents room loan = (
    i.0 ++ ds,
    going,
    contents ∙ ap (λ l. l ++ all_code_units T.form ds) i.2 ∙ append_assoc (T.contents first) (all_code_units T.form i.0) (all_code_units T.form ds)
        ∙ ap (λ l. T.contents first ++ l) (sym (all_code_units-append T.form i.0 ds)),
    omega (arith, total_unit_count-append T.form i.0 ds, i.3),
    loan ∙ i.4,
  )

  -- sequences were read ahead
  pub read_going : {r : ℕ} → ReadsTo T now next (take (length source - read) (drop read source)) r old new
      → IsUnderWay T last before source first next (read + r) new
  read_going {r} reads =
      let reads : ReadsTo T now next (drop read source) r old new = subst (λ l. ReadsTo T now next l r old new) (take_rest source read) reads in
      let going : Going T.form last before source (T.room first) next (read + r) (i.0 ++ reads.writes.scalars) =
      elim (cases_lt 0 r) [
        | inl some ↦ going_then i.1 _ i.3 (some_going reads some) some
        | inr none ↦
            let z : r ≡ 0 = omega (arith, none) in
            rw (reads_nothing reads z, append-nil i.0, reads.stays z, z, add-zero read) i.1
      ] in
      writes_on reads.writes.scalars going reads.writes.written reads.writes.room reads.writes.loan

  -- a byte was read
  pub byte_going : read < length source → WritesFed T now (get_or source read 0) next old new → IsUnderWay T last before source first next (read + 1) new
  byte_going some goes =
      writes_on (fed_scalars goes.fed) (going_feed i.1 _ i.3 goes.fed some goes.feeds goes.sound goes.enough) goes.written goes.room goes.loan

  -- the call ends at a byte
  pub byte_ends : (answer : DecoderResult) (n : ℕ) → read < length source → new ≡ old → EndsAt T.form (T.room old) now (get_or source read 0) next answer n
      → IsDecoderCall T.form before source last (T.room first) next answer (read + n) (T.contents first) (T.contents new)
  byte_ends answer n some same ends =
      let here = rw (← (drop_more source read 0 some)) at (call_ends {last = last} {rest = drop (read + 1) source} answer i.1.resting i.1.allowed ends) in
      rw same (i.0, call_then i.1 _ i.3 here, i.2)

  -- sequences were read ahead, and the bytes after them were held back
  pub front_going : {after : DecoderState} {r h : ℕ} → ReadsTo T now next (take (length source - read) (drop read source)) r old new
      → h ≤ length (take (length source - (read + r)) (drop (read + r) source))
      → HoldsBytes T.form (T.room new) next (take h (take (length source - (read + r)) (drop (read + r) source))) after
      → IsUnderWay T last before source first after (read + r + h) new
  front_going {r = r} {h} reads within holds =
      let j = read_going reads in
      (j.0, held_going j.1 _ j.3 h (rw (take_rest source (read + r)) at within) (rw (take_rest source (read + r)) at holds), j.2, j.3, j.4)

-- a malformed byte in the rest of a source is one of the source
pub left_malformed : {state : DecoderState} {at : ℕ} (source : List ℕ) (read : ℕ) → HasMalformedByte state (take (length source - read) (drop read source)) at
    → HasMalformedByte state source (read + at)
left_malformed {state} {at} source read has =
    let here = rw (take_rest source read, length-drop read source, get_or-drop read source at 0) at has in
    (omega (arith, here.0), here.1)
