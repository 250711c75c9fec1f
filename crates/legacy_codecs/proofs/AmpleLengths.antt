-- A run is finished if its outputs are wide and many enough.
use Rattle.std.proofs.Common.{◌≡◌, ℕ, ◌+◌, ◌-◌, ◌≤◌, List, [], ◌∷◌, length, refl, arith, length-append, All, Bool, true, false, IsTrue}
use Rattle.std.proofs.{lemmas.List.length-map, lemmas.List.Elements.All-get_or, lemmas.Option.{slice_get_within, get_or_from_slice_get}}
use Rattle.legacy_base.specs.declared.results.DecodeEvent.{DecodeEvent}
use Rattle.legacy_base.specs.{declared.results.DecoderResult.DecoderResult, declared.results.DecoderResult.TheVariants.{InputEmpty, OutputFull, Malformed}}
use Rattle.legacy_base.specs.{Events.shift, States.DecoderState, Calls.{DecoderCall, reported_events, out_events}}
use Rattle.legacy_text.specs.EncodingForm.{EncodingForm, wide_need, total_unit_count}
use Rattle.legacy_base.proofs.Needs.{lacks_small}
use Rattle.legacy_codecs.specs.{Pieces.{RunPlace, is_none, place_before, ends_run}, Runs.{is_input_empty, Reaches, IsRun, HasAmpleLengths}, Runs.Reaches.begun}
use Rattle.legacy_codecs.specs.Runs.Reaches.{called}
use Rattle.legacy_codecs.proofs.{RunDrivers.{later_less, calls_are_fewer}, Replaced.length-shift}
use Rattle.legacy_codecs.proofs.RunEvents.{place_after_call, events_ahead, place_before-ahead}
use Rattle.legacy_codecs.proofs.RunEvents.{Reaches-events}

-- a call's report adds its events after those of its scalars
out-some : (seen : ℕ) (scalars : List ℕ) (answer : DecoderResult) →
    length (out_events seen scalars answer) ≡ length scalars + length (reported_events seen answer)
out-some seen scalars answer = grind (arith, length-append, length-map)

-- if code units were written, there is a scalar
some_scalar : (form : EncodingForm) (scalars : List ℕ) → 1 ≤ total_unit_count form scalars → 1 ≤ length scalars
some_scalar form [] h = omega arith
some_scalar form (c ∷ cs) h = omega arith

-- a call that does not end the run gives an event or goes on to the next piece
progresses : (form : EncodingForm) (p : RunPlace DecoderState) (free : ℕ) (after : DecoderState) (answer : DecoderResult) (read : ℕ) (scalars : List ℕ) →
    wide_need form ≤ free → DecoderCall form p.state p.piece (is_none p.later) free after answer read scalars → ends_run p (is_input_empty answer) ≡ false →
    1 + length (place_after_call p after answer read).later ≤ length (out_events (length p.state.held + read) scalars answer) + length p.later
progresses form p free after InputEmpty read scalars w c e = let l = later_less after p.later e in omega arith
progresses form p free after OutputFull read scalars w c e =
    let lacks = lacks_small form after _ _ (free - total_unit_count form scalars) (c.output_full refl) in
    let some = some_scalar form scalars (omega arith) in
    let out = out-some (length p.state.held + read) scalars OutputFull in
    omega arith
progresses form p free after (Malformed a b) read scalars w c e =
    let out = out-some (length p.state.held + read) scalars (Malformed a b) in
    omega arith

-- so there are at most as many calls as events and pieces
calls-few : {form : EncodingForm} {from : RunPlace DecoderState} {lengths : List ℕ} {calls : ℕ} {events : List DecodeEvent} {passed : ℕ} {finished : Bool}
    {p : RunPlace DecoderState} →
    Reaches form from lengths calls events passed finished p → All (λ n. wide_need form ≤ n) lengths → finished ≡ false →
    calls + length p.later ≤ length events + length from.later
calls-few begun w h = omega arith
calls-few {form = form} {from = from} {lengths = lengths} (called calls events passed p r free e after answer read scalars c) w h =
    let before = calls-few r w refl in
    let at = All-get_or (λ n. wide_need form ≤ n) lengths calls 0 (slice_get_within lengths calls free e) w in
    let is = get_or_from_slice_get lengths calls free 0 e in
    let wide : wide_need form ≤ free = omega arith in
    let one = progresses form p free after answer read scalars wide c h in
    let out = out_events (length p.state.held + read) scalars answer in
    let both = length-append events (shift passed out) in
    let same = length-shift passed out in
    omega arith

pub is_finished : {form : EncodingForm} (before : DecoderState)
    (pieces : List (List ℕ)) {lengths : List ℕ} {calls : ℕ} {finished : Bool} {items : List DecodeEvent} {after : DecoderState} →
    IsRun form (place_before before pieces) lengths calls finished items after → HasAmpleLengths form before pieces lengths → IsTrue finished
is_finished before pieces {finished = true} r h = refl
is_finished before pieces {finished = false} r h = grind (arith, calls-few, events_ahead, place_before-ahead, Reaches-events, length-append, calls_are_fewer)
