use Rattle.std.proofs.Common.{arith, refl, rules}
use Rattle.legacy_exports.proofs.EncodingLaws.{after_piece, after_replaced, text_encoded, text_full, fewer_events, no_more_events, shorter}
use Rattle.legacy_exports.proofs.OutputParts.{front_of_part, free_after}
use Rattle.legacy_exports.proofs.encode.encode_once.Goals as goal

pub returns-then-last-clause-bytes : goal.returns-then-last-clause-bytes
returns-then-last-clause-bytes g c =
    let i = c.pieces.invariant in
    let front = front_of_part c.pieces.written _ c.encode-answer.result.2 c.pieces.output c.encode-answer.new.output i.within c.encode-answer.ensures.written in
    let call = rw (c.in-Read.is, c.if-last.true) at c.encode-answer.ensures.call in
    text_encoded _ i.encodes _ front _ call (i.is_over.0 c.if-last.true)

pub pieces-smaller-in-Read : goal.pieces-smaller-in-Read
pieces-smaller-in-Read g c =
    let i = c.pieces.invariant in
    let parts = c.cut.ensures.parts in
    let call = rw (c.in-Read.is, c.if-last.false) at c.encode-answer.ensures.call in
    let few = no_more_events (g.T.Text.scalars c.pieces.later) call _ parts in
    let short = shorter _ _ _ parts c.cut.ensures.some (λ none. rw c.if-last.false at (i.is_over.1 none)) in
    omega (arith, few, short)

pub pieces-preserved-in-Read : goal.pieces-preserved-in-Read
pieces-preserved-in-Read g c =
    let i = c.pieces.invariant in
    let front = front_of_part c.pieces.written _ c.encode-answer.result.2 c.pieces.output c.encode-answer.new.output i.within c.encode-answer.ensures.written in
    let call = rw (c.in-Read.is, c.if-last.false) at c.encode-answer.ensures.call in
    record { encodes = after_piece _ i.encodes _ front call _ c.cut.ensures.parts; within = search rules; is_over = c.cut.ensures.is_over }

pub returns-in-Full-clause-bytes : goal.returns-in-Full-clause-bytes
returns-in-Full-clause-bytes g c =
    let i = c.pieces.invariant in
    let front = front_of_part c.pieces.written _ c.encode-answer.result.2 c.pieces.output c.encode-answer.new.output i.within c.encode-answer.ensures.written in
    let call = rw c.in-Full.is at c.encode-answer.ensures.call in
    text_full _ i.encodes _ front _ call i.is_over.0
    (free_after (λ xs. xs) (λ xs. refl) c.pieces.written _ c.pieces.output i.within c.pieces.auto.output)

pub pieces-smaller : goal.pieces-smaller
pieces-smaller g c =
    let call = rw c.in-Replaced.is at c.encode-answer.ensures.call in
    let few = fewer_events (g.T.Text.scalars c.pieces.later) call in
    omega (arith, few)

pub pieces-preserved : goal.pieces-preserved
pieces-preserved g c =
    let i = c.pieces.invariant in
    let front = front_of_part c.pieces.written _ c.encode-answer.result.2 c.pieces.output c.encode-answer.new.output i.within c.encode-answer.ensures.written in
    let call = rw c.in-Replaced.is at c.encode-answer.ensures.call in
    record { encodes = after_replaced _ i.encodes _ front call; within = search rules; is_over = i.is_over }
