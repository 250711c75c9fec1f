-- A run of an encoder is finished if its outputs are wide and many enough.
use Rattle.std.proofs.Common.{◌≡◌, ℕ, ◌+◌, ◌≤◌, List, ◌++◌, length, map, refl, arith, length-append, All, Bool, true, false, IsTrue}
use Rattle.std.proofs.{lemmas.List.length-map, lemmas.List.Elements.All-get_or, lemmas.Option.{slice_get_within, get_or_from_slice_get}}
use Rattle.legacy_base.specs.{declared.results.EncodeEvent.EncodeEvent, declared.results.EncodeEvent.TheVariants.Byte}
use Rattle.legacy_base.specs.declared.results.EncoderResult.{EncoderResult}
use Rattle.legacy_base.specs.{Encoders.EncoderState, EncoderCalls.{EncoderCall, reported}}
use Rattle.legacy_base.proofs.EncoderLaws.{encoder_need-small}
use Rattle.legacy_codecs.specs.{Pieces.{RunPlace, is_none, place_before, place_after, ends_run}, EncodeRuns.{is_input_empty, EncodeReaches, IsEncodeRun}}
use Rattle.legacy_codecs.specs.{EncodeRuns.HasAmpleOutputs, EncodeRuns.EncodeReaches.{begun, called}}
use Rattle.legacy_codecs.proofs.{RunDrivers.{later_less, calls_are_fewer}, EncodeRunEvents.{encoded_ahead, place_before-encoded, reaches-encoded}}

-- a call's report adds its events after those of its bytes
out-length : (bytes : List ℕ) (answer : EncoderResult) → length (map Byte bytes ++ reported answer) ≡ length bytes + length (reported answer)
out-length bytes answer = grind (arith, length-append, length-map)

-- a call that does not end the run gives an event or goes on to the next piece
progresses : (p : RunPlace EncoderState) (free : ℕ) (after : EncoderState) (answer : EncoderResult) (left bytes : List ℕ) → 4 ≤ free →
    EncoderCall p.state p.piece (is_none p.later) free after answer left bytes → ends_run p (is_input_empty answer) ≡ false →
    1 + length (place_after p after (is_input_empty answer) left).later ≤ length (map Byte bytes ++ reported answer) + length p.later
progresses p free after answer left bytes h h1 h2 = grind (arith, later_less, encoder_need-small, out-length)

-- so there are at most as many calls as events and pieces
calls-few : {from : RunPlace EncoderState} {lengths : List ℕ} {calls : ℕ} {events : List EncodeEvent} {finished : Bool} {p : RunPlace EncoderState} →
    EncodeReaches from lengths calls events finished p → All (λ n. 4 ≤ n) lengths → finished ≡ false →
    calls + length p.later ≤ length events + length from.later
calls-few begun w h = omega arith
calls-few {lengths = lengths} (called calls events p r free e after answer left bytes c) w h =
    let before = calls-few r w refl in
    let at = All-get_or (λ n. 4 ≤ n) lengths calls 0 (slice_get_within lengths calls free e) w in
    let is = get_or_from_slice_get lengths calls free 0 e in
    let one = progresses p free after answer left bytes (omega arith) c h in
    omega (arith, length-append events (map Byte bytes ++ reported answer))

pub encode_is_finished : (before : EncoderState) (pieces : List (List ℕ)) {lengths : List ℕ} {calls : ℕ} {finished : Bool} {items : List EncodeEvent}
    {after : EncoderState} →
    IsEncodeRun (place_before before pieces) lengths calls finished items after → HasAmpleOutputs before pieces lengths → IsTrue finished
encode_is_finished before pieces {finished = true} r h = refl
encode_is_finished before pieces {finished = false} {items = items} r h =
    grind (arith, calls-few, place_before-encoded, reaches-encoded, length-append, encoded_ahead, calls_are_fewer)
