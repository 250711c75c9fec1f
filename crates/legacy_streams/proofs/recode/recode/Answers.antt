use Rattle.std.proofs.{Common.{◌≤◌, length, take, arith, eq-eqb, refl}, lemmas.Bool.{ne_eqb, eqb-true}, KnownBytes.Appends-nil}
use Rattle.legacy_streams.proofs.Whole.{whole_start, whole_next, whole_end, whole_beginning, whole_partly, at_least, front_near}
use Rattle.legacy_streams.proofs.PieceUnderWay.{lines_of_none, lines_join, lines_front_join}
use Rattle.legacy_streams.proofs.recode.recode.Goals as goal

pub pieces-init : goal.pieces-init
pieces-init g c = record { whole = whole_start (rw lines_of_none (Appends-nil _)); long = refl; small = omega arith; empty = c.new-lines.ensures }

pub returns-in_default : goal.returns-in_default
returns-in_default g c =
    record { ok = tt; read = λ e. whole_beginning c.pieces.invariant.whole _ (λ _ shown. shown) c.in_default.ensures.kept; write = λ e. cc }

pub returns-then-last : goal.returns-then-last
returns-then-last g c =
    let read = c.in-Some.ensures.bytes in
    record {
      ok =
          whole_end c.pieces.invariant.whole read.0 (lines_join _ _ _) (read.1 c.if-last.true) (eq-eqb c.in-Some.count 0 c.if-last.true)
          c.in-Ok.ensures.piece;
      read = λ e. cc;
      write = λ e. cc;
    }

pub pieces-preserved : goal.pieces-preserved
pieces-preserved g c =
    let read = c.in-Some.ensures in
    record {
      whole =
          whole_next c.pieces.invariant.whole _ read.count.0 read.bytes.0 (lines_join _ _ _) (ne_eqb _ 0 c.if-last.false) c.in-Ok.ensures.piece;
      long = omega arith;
      small = read.count.1;
      empty = c.in-Ok.ensures.empty;
    }

pub returns-in_default-recode_piece : goal.returns-in_default-recode_piece
returns-in_default-recode_piece g c =
    let read = c.in-Some.ensures.bytes in
    let near : length (take c.in-Some.count c.read_piece.new.buffer) ≤ 4096 = front_near _ _ (omega (arith, c.pieces.invariant.long)) in
    record {
      ok = tt;
      read = λ e. cc;
      write = λ e.
          whole_partly c.pieces.invariant.whole read.0 (lines_front_join _ _ _) (λ l. read.1 (eqb-true _ _ l)) near
          (λ _ _ first front. at_least _ first front) c.in_default-recode_piece.ensures.err;
    }

pub overflow_add-total : goal.overflow_add-total
overflow_add-total g c = omega (arith, c.in-Some.ensures.count.1)

pub pieces-smaller : goal.pieces-smaller
pieces-smaller g c = let some = ne_eqb c.in-Some.count 0 c.if-last.false in omega (arith, some, c.in-Some.ensures.count.1)
