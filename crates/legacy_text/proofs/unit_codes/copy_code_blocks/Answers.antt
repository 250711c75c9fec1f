use Rattle.std.proofs.Common.{arith}
use Rattle.legacy_text.proofs.ShortScalars.{block_after}
use Rattle.legacy_text.proofs.unit_codes.copy_code_blocks.Goals as goal

pub returns-then-count-lt16 : goal.returns-then-count-lt16
returns-then-count-lt16 g c =
    let e = c.ascii_count-count.ensures in
    let b = c.code_block in
    let i = c.loop-copied.invariant in
    let stored = c.store.ensures _ e.most in
    grind (arith, block_after b.result.0 b.result.1 (omega (arith, c.loop-copied-test.true)) e.most b.ensures.bytes b.ensures.codes e.ascii stored i.2 i.3)

pub loop-copied-preserved : goal.loop-copied-preserved
loop-copied-preserved g c =
    let e = c.ascii_count-count.ensures in
    let b = c.code_block in
    let i = c.loop-copied.invariant in
    let stored = c.store.ensures _ e.most in
    grind (arith, block_after b.result.0 b.result.1 (omega (arith, c.loop-copied-test.true)) e.most b.ensures.bytes b.ensures.codes e.ascii stored i.2 i.3)

pub returns-else-most-copied-ge16 : goal.returns-else-most-copied-ge16
returns-else-most-copied-ge16 g c = let i = c.loop-copied.invariant in record { read = i.0; fits = omega arith; bmp = i.2; writes = i.3 }

pub returns-after-loop-copied : goal.returns-after-loop-copied
returns-after-loop-copied g c = let i = c.loop-copied.invariant in record { read = i.0; fits = omega arith; bmp = i.2; writes = i.3 }
