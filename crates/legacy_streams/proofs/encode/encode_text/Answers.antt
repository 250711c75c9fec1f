use Rattle.std.proofs.{Common.{◌≡◌, ◌∙◌, ℕ, ◌+◌, ◌^◌, ◌<◌, length, take, arith, refl}, lemmas.List.{length-take, length-take-le}}
use Rattle.legacy_streams.proofs.EncodingUnderWay.{input_start, input_beginning, input_step, input_partly, input_end, input_end_partly}
use Rattle.legacy_streams.proofs.EncodingUnderWay.{piece_near, piece_unwritten, piece_written, read_end}
use Rattle.legacy_streams.proofs.encode.encode_text.Goals as goal

-- nothing is held, and nothing was read
none_held : 0 < 4
none_held = omega arith

none_read : 0 < 2 ^ 64
none_read = omega arith

pub pieces-init : goal.pieces-init
pieces-init g c = record { so_far = input_start _ _ _; short = none_held; empty = c.new-encoded.ensures; long = refl; small = none_read }

pub read_after-requires : goal.read_after-requires
read_after-requires g c = omega (arith, c.pieces.invariant.short, c.pieces.invariant.long)

pub push_piece-requires : goal.push_piece-requires
push_piece-requires g c = c.pieces.invariant.empty

pub overflow_add-filled : goal.overflow_add-filled
overflow_add-filled g c = omega (arith, c.in-Some.ensures.count.0)

pub keep_end-requires : goal.keep_end-requires
keep_end-requires g c =
    record { left = omega (arith, c.in-Ok-push_piece.ensures.piece.within, length-take {A = ℕ}); filled = c.in-Some.ensures.count.0 }

pub overflow_add-total : goal.overflow_add-total
overflow_add-total g c = omega (arith, c.in-Some.ensures.count.1)

pub pieces-smaller : goal.pieces-smaller
pieces-smaller g c = omega (arith, c.if-count-eq0.false, c.in-Some.ensures.count.1)

pub returns-in_default : goal.returns-in_default
returns-in_default g c =
    record { ok = tt; read = λ e. input_beginning c.pieces.invariant.so_far c.in_default.ensures.kept; write = λ e. cc }

pub returns-in-Ok : goal.returns-in-Ok
returns-in-Ok g c =
    let none = read_end _ _ _ _ _ _ c.pieces.invariant.short c.pieces.invariant.long c.if-count-eq0.true c.in-Some.ensures.bytes in
    record {
      ok = input_end c.pieces.invariant.so_far _ none.0 none.1 _ _ (rw (← none.2) at c.in-Ok.ensures.text);
      read = λ e. cc;
      write = λ e. cc;
    }

pub returns-in-Err : goal.returns-in-Err
returns-in-Err g c =
    let none = read_end _ _ _ _ _ _ c.pieces.invariant.short c.pieces.invariant.long c.if-count-eq0.true c.in-Some.ensures.bytes in
    record {
      ok = tt;
      read = λ e. cc;
      write = λ e. input_end_partly c.pieces.invariant.so_far _ none.0 none.1 _ _ (rw (← none.2) at c.in-Err.ensures.err);
    }

pub returns-in_default-push_piece : goal.returns-in_default-push_piece
returns-in_default-push_piece g c =
    let bytes = c.in-Some.ensures.bytes in
    let near = piece_near _ _ _ _ _ bytes.2 c.in-Some.ensures.count.0 (omega (arith, c.pieces.invariant.long)) in
    record {
      ok = tt;
      read = λ e. cc;
      write = λ e. input_partly c.pieces.invariant.so_far bytes.0 bytes.1 near (rw bytes.2 at c.in_default-push_piece.ensures.err);
    }

pub returns-in_default-write_to : goal.returns-in_default-write_to
returns-in_default-write_to g c =
    let bytes = c.in-Some.ensures.bytes in
    let unwritten = piece_unwritten c.in-Ok-push_piece.ensures.piece c.in_default-write_to.ensures.err in
    let near = piece_near _ _ _ _ _ bytes.2 c.in-Some.ensures.count.0 (omega (arith, c.pieces.invariant.long)) in
    record { ok = tt; read = λ e. cc; write = λ e. input_partly c.pieces.invariant.so_far bytes.0 bytes.1 near (rw bytes.2 at unwritten) }

pub pieces-preserved : goal.pieces-preserved
pieces-preserved g c =
    let read = c.in-Some.ensures in
    let filled = c.pieces.held + c.in-Some.count in
    let piece = piece_written c.in-Ok-push_piece.ensures.piece c.in-Ok-write_to.ensures.sends in
    let long : length (take filled c.read_after.new.buffer) ≡ filled = length-take-le filled c.read_after.new.buffer read.count.0 in
    record {
      so_far = input_step c.pieces.invariant.so_far read.bytes.0 read.bytes.1 _ (rw read.bytes.2 at piece) (rw (← read.bytes.2, long) c.keep_end.ensures);
      short = piece.short;
      empty = c.in-Ok-write_to.ensures.empty;
      long = c.keep_end.auto.buffer ∙ c.read_after.auto.buffer ∙ c.pieces.invariant.long;
      small = read.count.1;
    }
