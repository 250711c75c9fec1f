use Rattle.std.proofs.Common.{◌≡◌, length, refl, arith, ap, sym, ◌∙◌}
use Rattle.std.proofs.{lemmas.Bool.true≢false, lemmas.Option.slice_get-get_or}
use Rattle.std.specs.Borrow.{Bor}
use Rattle.std.specs.Prelude.{ℕ, List}
use Rattle.legacy_codecs.specs.Pieces.{contents_of}
use Rattle.legacy_codecs.proofs.RunDrivers.{place_before-state, pieces-length, place_split, none_is, room_now, room_later}
use Rattle.legacy_codecs.proofs.{RunSteps.{running_start, running_call, is_run}, decode_run.run_calls.Goals.{then-all+else-last, else-all}}
use Rattle.legacy_codecs.proofs.decode_run.run_calls.Goals as goal

-- the bytes of a piece
abbrev bytes_of : Bor (List ℕ) → List ℕ
bytes_of piece = piece.now

pub loop-calls-init : goal.loop-calls-init
loop-calls-init g c =
    let none = c.args.events.ok.0 ∙ ap length c.requires.empty in
    let state = g.D.RawDecoder.state c.args.decoder.now in
    let split = c.split_pieces.ensures in
    record {
      running = rw (c.requires.empty, place_split bytes_of state c.args.pieces.now refl split.first split.later) (running_start _ _ _);
      room = let r = c.requires.room in omega arith;
      buffer = c.requires.buffer;
    }

pub call_once-all-requires : goal.call_once-all-requires
call_once-all-requires g c =
    let state = g.D.RawDecoder.state c.args.decoder.now in
    let all = pieces-length state (contents_of c.args.pieces.now) in
    record {
      buffer = c.loop-calls.invariant.buffer c.loop-calls.calls 0 c.loop-calls-test.true;
      total = omega (arith, c.loop-calls.invariant.running.bytes, all, c.requires.total);
      room = room_now c.args.lengths.now c.loop-calls-test.true _ c.loop-calls.invariant.room;
    }

pub overflow_add-total : goal.overflow_add-total
overflow_add-total g c =
    let state = g.D.RawDecoder.state c.args.decoder.now in
    let all = pieces-length state (contents_of c.args.pieces.now) in
    omega (arith, c.call_once-all.ensures.call.2.within, c.loop-calls.invariant.running.bytes, all, c.requires.total)

pub rest_of-unread-requires : goal.rest_of-unread-requires
rest_of-unread-requires g c = c.call_once-all.ensures.call.2.within

pub overflow_add-result : goal.overflow_add-result
overflow_add-result g c = omega (arith, c.loop-calls-test.true)

pub bounds-lengths-calls : goal.bounds-lengths-calls
bounds-lengths-calls g c = c.loop-calls-test.true

pub returns-then-last : goal.returns-then-last
returns-then-last g c =
    let after = g.D.RawDecoder.state c.call_once-all.new.decoder in
    let later = contents_of c.loop-calls.later.now in
    let call = c.call_once-all.ensures.call in
    let given = slice_get-get_or c.args.lengths.now c.loop-calls.calls 0 c.loop-calls-test.true in
    let last = c.is_empty-last.ensures ∙ none_is bytes_of c.loop-calls.later.now in
    let emptied = sym c.if-all.true ∙ call.3 in
    let ended = sym c.if-last.true ∙ last in
    let few = c.loop-calls-test.true in
    is_run (running_call c.loop-calls.invariant.running given call.2 last emptied call.4 ended refl) (place_before-state after later) (omega arith)
    (λ e. absurd (true≢false e))

pub returns : goal.returns
returns g c =
    let all : c.loop-calls.calls ≡ length c.args.lengths.now = omega arith in
    rw (← all) (is_run c.loop-calls.invariant.running refl (omega arith) (λ e. all))

pub loop-calls-preserved : goal.loop-calls-preserved
loop-calls-preserved g c =
    let i = c.loop-calls.invariant in
    let after = g.D.RawDecoder.state c.call_once-all.new.decoder in
    let call = c.call_once-all.ensures.call in
    let few = c.loop-calls-test.true in
    let last = c.is_empty-last.ensures ∙ none_is bytes_of c.loop-calls.later.now in
    let given = slice_get-get_or c.args.lengths.now c.loop-calls.calls 0 few in
    let room = room_later c.args.lengths.now few _ i.room c.call_once-all.ensures.capacity c.call_once-all.ensures.len in
    elim c.if-all.branch [
      | then-all+else-last w ↦
          let goes = sym w.if-last.false ∙ last in
          let emptied = sym w.if-all.true ∙ call.3 in
          let split = w.split_pieces-then-all.ensures in
          rw (w.unread-is, w.later-is) record {
            running = running_call i.running given call.2 last emptied call.4 goes
                (place_split bytes_of after c.loop-calls.later.now refl split.first split.later);
            room = room;
            buffer = λ k d h. rw c.call_once-all.auto.buffer (i.buffer k d h);
          }
      | else-all w ↦
          let going = sym w.if-all.false ∙ call.3 in
          rw (w.unread-is, w.later-is) record {
            running = running_call i.running given call.2 last going call.4 refl (rw c.rest_of-unread.ensures refl);
            room = room;
            buffer = λ k d h. rw c.call_once-all.auto.buffer (i.buffer k d h);
          }
    ]
