-- A run in progress, call by call.
use Rattle.std.proofs.Common.{◌≡◌, ℕ, ◌+◌, ◌≤◌, List, [], ◌++◌, length, drop, Bool, false, Some, refl, ap, arith, append_assoc, length-drop}
use Rattle.std.specs.Prelude.{slice_get, sum_by}
use Rattle.legacy_base.specs.declared.results.DecodeEvent.{DecodeEvent}
use Rattle.legacy_base.specs.{declared.results.DecoderResult.DecoderResult, declared.results.DecoderResult.TheVariants.InputEmpty}
use Rattle.legacy_base.specs.{Events.shift, States.DecoderState, Calls.{DecoderCall, HoldsBack, reported_events, out_events}}
use Rattle.legacy_text.specs.EncodingForm.{EncodingForm}
use Rattle.legacy_base.proofs.Shifts.{shift-append, shift-scalars}
use Rattle.legacy_codecs.specs.{Pieces.{RunPlace, is_none, place_after, ends_run}, Runs.{is_input_empty, Reaches, IsRun, placed}, Runs.Reaches.{begun, called}}
use Rattle.legacy_codecs.proofs.{RunDrivers.{place_after-state, pieces-length}, RunEvents.{place_after_call, placed-append, placed-scalars}}

-- A run in progress: its calls lead to the place `p`, gave these events, and read `total` bytes.
pub record Running (form : EncodingForm) (from : RunPlace DecoderState) (lengths : List ℕ) (calls : ℕ) (items : List DecodeEvent) (total : ℕ) (finished : Bool)
    (p : RunPlace DecoderState) : Type 0 where
  pub events : List DecodeEvent
  pub passed : ℕ
  pub reaches : Reaches form from lengths calls events passed finished p
  pub items_are : items ≡ placed (length from.state.held) events
  pub passed_is : passed + length p.state.held ≡ length from.state.held + total
  pub bytes : total + (length p.piece + sum_by length p.later) ≤ length from.piece + sum_by length from.later

pub running_start : (form : EncodingForm) (from : RunPlace DecoderState) (lengths : List ℕ) → Running form from lengths 0 [] 0 false from
unfolding placed
running_start form from lengths = record { events = []; passed = 0; reaches = begun; items_are = refl; passed_is = omega arith; bytes = omega arith }

-- the report of a call, with places counted from the first byte of the run
reported-placed : (h passed held total read : ℕ) (after : DecoderState) (answer : DecoderResult) → HoldsBack (held + read) after answer →
    passed + held ≡ h + total → placed h (shift passed (reported_events (held + read) answer)) ≡ reported_events (total + read) answer
unfolding placed
reported-placed h passed held total read after answer h1 h2 = grind arith

-- after a call at most as many bytes are unread as before it
place_after-bytes : (p : RunPlace DecoderState) (after : DecoderState) (answer : DecoderResult) (read : ℕ) → read ≤ length p.piece →
    (answer ≡ InputEmpty → read ≡ length p.piece) →
    read + (length (place_after_call p after answer read).piece + sum_by length (place_after_call p after answer read).later)
    ≤ length p.piece + sum_by length p.later
place_after-bytes p after answer read h h1 = grind (arith, pieces-length, length-drop)

-- one more call, with the next of the lengths
module _ {form : EncodingForm} {from : RunPlace DecoderState} {lengths : List ℕ} {calls : ℕ} {items : List DecodeEvent} {total : ℕ} {p : RunPlace DecoderState}
    (r : Running form from lengths calls items total false p)
    {free : ℕ} (given : slice_get lengths calls ≡ Some free) {after : DecoderState} {answer : DecoderResult} {read : ℕ} {scalars : List ℕ}
    (c : DecoderCall form p.state p.piece (is_none p.later) free after answer read scalars) where
  items_after : items ++ out_events (total + read) scalars answer
      ≡ placed (length from.state.held) (r.events ++ shift r.passed (out_events (length p.state.held + read) scalars answer))
  items_after = grind (arith, reported-placed, placed-append, shift-append, shift-scalars, placed-scalars, append_assoc)

  call_after : Running form from lengths (calls + 1) (items ++ out_events (total + read) scalars answer) (total + read)
      (ends_run p (is_input_empty answer)) (place_after_call p after answer read)
  call_after = record {
    events = r.events ++ shift r.passed (out_events (length p.state.held + read) scalars answer);
    passed = r.passed + c.passed;
    reaches = called calls r.events r.passed p r.reaches free given after answer read scalars c;
    items_are = items_after;
    passed_is =
        let state : length (place_after_call p after answer read).state.held ≡ length after.held =
        ap (λ (s : DecoderState). length s.held) (place_after-state p after (is_input_empty answer) (drop read p.piece)) in
        let w = c.within in
        omega (arith, c.progress.counts, r.passed_is, length-drop read p.piece);
    bytes = let b = place_after-bytes p after answer read c.within (λ e. (c.input_empty e).0) in omega (arith, r.bytes);
  }

-- one more call, with its outputs given by equations
pub running_call : {form : EncodingForm} {from : RunPlace DecoderState} {lengths : List ℕ} {calls : ℕ} {items items' : List DecodeEvent} {total : ℕ}
    {p p' : RunPlace DecoderState} {free : ℕ} {after : DecoderState} {last finished empty : Bool} {answer : DecoderResult} {read : ℕ} {scalars : List ℕ} →
    Running form from lengths calls items total false p → slice_get lengths calls ≡ Some free →
    DecoderCall form p.state p.piece last free after answer read scalars → last ≡ is_none p.later → empty ≡ is_input_empty answer →
    items' ≡ items ++ out_events (total + read) scalars answer → finished ≡ ends_run p empty → p' ≡ place_after p after empty (drop read p.piece) →
    Running form from lengths (calls + 1) items' (total + read) finished p'
running_call r given c l e i f q = rw (i, f, q, e) (call_after r given (rw l at c))

pub is_run : {form : EncodingForm} {from : RunPlace DecoderState} {lengths : List ℕ} {calls : ℕ} {items : List DecodeEvent} {total : ℕ} {finished : Bool}
    {p : RunPlace DecoderState}
    {after : DecoderState} →
    Running form from lengths calls items total finished p → p.state ≡ after → calls ≤ length lengths → (finished ≡ false → calls ≡ length lengths) →
    IsRun form from lengths calls finished items after
is_run r state few all = grind arith
