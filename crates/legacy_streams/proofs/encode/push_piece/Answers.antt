use Rattle.std.proofs.{Common.{◌≡◌, ◌<◌, ◌∙◌, ℕ, false, eqb, refl, sym, arith, inl, inr, ⊎_elim}, lemmas.Bool.{eqb-true, eqb-false}}
use Rattle.std.proofs.lemmas.Result.{err_from_is_err_and}
use Rattle.legacy_streams.proofs.{Utf8Pieces.replacement_chars, EncodingUnderWay.{piece_start, piece_end, chunk_front, chunk_end, malformed_front}}
use Rattle.legacy_streams.proofs.EncodingUnderWay.{chunk_lengths, malformed_step, held_valid, held_nothing, held_cut, nothing_cut}
use Rattle.legacy_streams.proofs.encode.push_piece.Goals as goal

some_invalid : (n : ℕ) → eqb n 0 ≡ false → 0 < n
some_invalid n e = omega (arith, eqb-false n 0 e)

pub chunks-init : goal.chunks-init
chunks-init g c = piece_start _ c.args.piece.now _ c.requires

pub rest_of-requires : goal.rest_of-requires
rest_of-requires g c = c.chunks.invariant.within

pub returns-in_default-clause-err : goal.returns-in_default-clause-err
returns-in_default-clause-err g c = tt

pub returns-in_err-push_text-clause-piece : goal.returns-in_err-push_text-clause-piece
returns-in_err-push_text-clause-piece g c = rw (err_from_is_err_and c.from_residual.result c.from_residual.ensures.1).1 tt

pub returns-then-is_empty-clause-err : goal.returns-then-is_empty-clause-err
returns-then-is_empty-clause-err g c = tt

pub returns-then-is_held-clause-err : goal.returns-then-is_held-clause-err
returns-then-is_held-clause-err g c = tt

pub returns-in_err-push_text-2-clause-piece : goal.returns-in_err-push_text-2-clause-piece
returns-in_err-push_text-2-clause-piece g c =
    rw (err_from_is_err_and c.from_residual-in_err-push_text-2.result c.from_residual-in_err-push_text-2.ensures.1).1 tt

pub returns-in_default-clause-piece : goal.returns-in_default-clause-piece
returns-in_default-clause-piece g c = piece_end c.chunks.invariant (rw c.rest_of.ensures at c.in_default.ensures)

pub returns-in_err-push_text-clause-err : goal.returns-in_err-push_text-clause-err
returns-in_err-push_text-clause-err g c =
    let k = rw c.rest_of.ensures at c.in-Some.ensures in
    rw (err_from_is_err_and c.from_residual.result c.from_residual.ensures.1).1 (chunk_front c.chunks.invariant k c.in_err-push_text.ensures.err)

pub returns-then-is_empty-clause-piece : goal.returns-then-is_empty-clause-piece
returns-then-is_empty-clause-piece g c =
    let k = rw c.rest_of.ensures at c.in-Some.ensures in
    let none = eqb-true _ _ (sym c.is_empty.ensures ∙ c.if-is_empty.true) in
    chunk_end c.chunks.invariant k 0 c.in_ok-push_text.ensures.text none (k.whole none) (omega arith) (nothing_cut _ none)

pub is_held-requires : goal.is_held-requires
is_held-requires g c t =
    let k = rw c.rest_of.ensures at c.in-Some.ensures in
    let some = some_invalid _ (sym c.is_empty.ensures ∙ c.if-is_empty.false) in
    held_valid c.chunks.invariant k some (eqb-true _ _ t)

pub returns-then-is_held-clause-piece : goal.returns-then-is_held-clause-piece
returns-then-is_held-clause-piece g c =
    let k = rw c.rest_of.ensures at c.in-Some.ensures in
    let some = some_invalid _ (sym c.is_empty.ensures ∙ c.if-is_empty.false) in
    let held = c.is_held.ensures.held c.if-is_held.true in
    let e = eqb-true _ _ held.0 in
    chunk_end c.chunks.invariant k _ c.in_ok-push_text.ensures.text refl (held_nothing c.chunks.invariant k some e) held.2
    (held_cut c.chunks.invariant k some e held.1)

pub returns-in_err-push_text-2-clause-err : goal.returns-in_err-push_text-2-clause-err
returns-in_err-push_text-2-clause-err g c =
    let k = rw c.rest_of.ensures at c.in-Some.ensures in
    let some = some_invalid _ (sym c.is_empty.ensures ∙ c.if-is_empty.false) in
    let told = ⊎_elim (λ ne. inl (eqb-false _ _ ne)) (λ f. inr f) (c.is_held.ensures.malformed_sequence c.if-is_held.false) in
    let second = rw replacement_chars at c.in_err-push_text-2.ensures.err in
    rw (err_from_is_err_and c.from_residual-in_err-push_text-2.result c.from_residual-in_err-push_text-2.ensures.1).1
    (malformed_front c.chunks.invariant k some told c.in_ok-push_text.ensures.text second)

pub chunks-preserved : goal.chunks-preserved
chunks-preserved g c =
    let k = rw c.rest_of.ensures at c.in-Some.ensures in
    let some = some_invalid _ (sym c.is_empty.ensures ∙ c.if-is_empty.false) in
    let told = ⊎_elim (λ ne. inl (eqb-false _ _ ne)) (λ f. inr f) (c.is_held.ensures.malformed_sequence c.if-is_held.false) in
    let second = rw replacement_chars at c.in_ok-push_text-2.ensures.text in
    malformed_step c.chunks.invariant k some told c.in_ok-push_text.ensures.text second

pub overflow_add-passed : goal.overflow_add-passed
overflow_add-passed g c =
    let k = rw c.rest_of.ensures at c.in-Some.ensures in omega (arith, chunk_lengths c.chunks.invariant k)

pub overflow_add-passed-in-chunks : goal.overflow_add-passed-in-chunks
overflow_add-passed-in-chunks g c =
    let k = rw c.rest_of.ensures at c.in-Some.ensures in omega (arith, chunk_lengths c.chunks.invariant k)

pub chunks-smaller : goal.chunks-smaller
chunks-smaller g c =
    let k = rw c.rest_of.ensures at c.in-Some.ensures in
    let some = some_invalid _ (sym c.is_empty.ensures ∙ c.if-is_empty.false) in
    omega (arith, chunk_lengths c.chunks.invariant k, some)
