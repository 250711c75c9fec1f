use Rattle.std.proofs.Common.{◌≡◌, length, map, refl, arith, ap, sym, ◌∙◌}
use Rattle.std.proofs.{lemmas.Bool.true≢false, lemmas.Option.slice_get-get_or}
use Rattle.legacy_codecs.specs.{Pieces.place_before, EncodeRuns.EncodeReaches.begun}
use Rattle.legacy_codecs.proofs.RunDrivers.{place_before-state, place_split, none_is, room_now, room_later}
use Rattle.legacy_codecs.proofs.{EncodeRunEvents.reaches_call, encode_run.run_calls.Goals.{then-call_once+else-last, else-call_once}}
use Rattle.legacy_codecs.proofs.encode_run.run_calls.Goals as goal

pub loop-calls-init : goal.loop-calls-init
loop-calls-init g c =
    let none = c.args.events.ok.0 ∙ ap length c.requires.empty in
    let state = g.E.RawEncoder.state c.args.encoder.now in
    let split = c.split_pieces-first.ensures in
    let first = place_split g.T.Piece.items state c.args.pieces.now c.empty.ensures split.first split.later in
    record {
      reaches = rw (c.requires.empty, c.cursor-unread.ensures, first) begun;
      room = let r = c.requires.room in omega arith;
      output = c.requires.output;
    }

pub call_once-requires : goal.call_once-requires
call_once-requires g c = record {
  output = c.loop-calls.invariant.output c.loop-calls.calls 0 c.loop-calls-test.true;
  room = room_now c.args.lengths.now c.loop-calls-test.true _ c.loop-calls.invariant.room;
}

pub overflow_add-result : goal.overflow_add-result
overflow_add-result g c = omega (arith, c.loop-calls-test.true)

pub bounds-lengths-calls : goal.bounds-lengths-calls
bounds-lengths-calls g c = c.loop-calls-test.true

pub returns-then-last : goal.returns-then-last
returns-then-last g c =
    let i = c.loop-calls.invariant in
    let after = g.E.RawEncoder.state c.call_once.new.encoder in
    let call = c.call_once.ensures.call in
    let few = c.loop-calls-test.true in
    let given = slice_get-get_or c.args.lengths.now c.loop-calls.calls 0 few in
    let last = c.is_empty-last.ensures ∙ none_is g.T.Piece.items c.loop-calls.later.now in
    let emptied = sym c.if-call_once.true ∙ call.3 in
    record {
      place = place_before after (map g.T.Piece.items c.loop-calls.later.now);
      reaches = reaches_call i.reaches given call.2 last emptied call.4 (sym c.if-last.true ∙ last) refl;
      state = place_before-state after _;
      few = omega arith;
      all = λ e. absurd (true≢false e);
    }

pub returns : goal.returns
returns g c =
    let all : c.loop-calls.calls ≡ length c.args.lengths.now = omega arith in
    rw (← all) record { place = _; reaches = c.loop-calls.invariant.reaches; state = refl; few = omega arith; all = λ e. all }

pub loop-calls-preserved : goal.loop-calls-preserved
loop-calls-preserved g c =
    let i = c.loop-calls.invariant in
    let after = g.E.RawEncoder.state c.call_once.new.encoder in
    let call = c.call_once.ensures.call in
    let few = c.loop-calls-test.true in
    let last = c.is_empty-last.ensures ∙ none_is g.T.Piece.items c.loop-calls.later.now in
    let given = slice_get-get_or c.args.lengths.now c.loop-calls.calls 0 few in
    let room = room_later c.args.lengths.now few _ i.room c.call_once.ensures.capacity c.call_once.ensures.len in
    elim c.if-call_once.branch [
      | then-call_once+else-last w ↦
          let goes = sym w.if-last.false ∙ last in
          let emptied = sym w.if-call_once.true ∙ call.3 in
          let split = w.split_pieces-next.ensures in
          let next = place_split g.T.Piece.items after c.loop-calls.later.now w.empty-then-call_once.ensures split.first split.later in
          rw (w.unread-is, w.later-is, w.cursor-unread-then-call_once.ensures) record {
            reaches = reaches_call i.reaches given call.2 last emptied call.4 goes next;
            room = room;
            output = λ k d h. rw c.call_once.auto.output (i.output k d h);
          }
      | else-call_once w ↦
          let going = sym w.if-call_once.false ∙ call.3 in
          rw (w.unread-is, w.later-is) record {
            reaches = reaches_call i.reaches given call.2 last going call.4 refl refl;
            room = room;
            output = λ k d h. rw c.call_once.auto.output (i.output k d h);
          }
    ]
