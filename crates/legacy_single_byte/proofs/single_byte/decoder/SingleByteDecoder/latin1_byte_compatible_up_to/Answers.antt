use Rattle.std.proofs.Common.{◌∙◌, sym, arith}
use borrow.Author.Count.{below_more}
use Rattle.legacy_single_byte.proofs.Latin1Fronts.{latin1_front-length, latin1-ascii}
use Rattle.legacy_single_byte.proofs.single_byte.decoder.SingleByteDecoder.latin1_byte_compatible_up_to.Goals as goal

pub loop-count-init : goal.loop-count-init
loop-count-init c = let e = c.ascii_blocks-count.ensures in (e.within, latin1-ascii _ _ _ e.ascii)

pub returns-else-is_latin1 : goal.returns-else-is_latin1
returns-else-is_latin1 c =
    latin1_front-length _ _ _ c.loop-count.invariant.0 c.loop-count.invariant.1 (λ h. sym c.is_latin1.ensures ∙ c.if-is_latin1.false)

pub returns-after-loop-count : goal.returns-after-loop-count
returns-after-loop-count c =
    latin1_front-length _ _ _ c.loop-count.invariant.0 c.loop-count.invariant.1 (λ h. absurd (omega (arith, h, c.loop-count-test.false)))

pub loop-count-preserved : goal.loop-count-preserved
loop-count-preserved c = (omega (arith, c.loop-count-test.true), below_more _ _ c.loop-count.invariant.1 (sym c.is_latin1.ensures ∙ c.if-is_latin1.true))
