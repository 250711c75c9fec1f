use Rattle.std.proofs.Common.{arith}
use Rattle.legacy_single_byte.proofs.LongestRuns.{kept, none_longer, not_refused, replaced}
use Rattle.legacy_single_byte.proofs.single_byte.run.SingleByteRun.longest.Goals.{then-run-best, else-run-best}
use Rattle.legacy_single_byte.proofs.single_byte.run.SingleByteRun.longest.Goals as goal

pub loop-place-preserved : goal.loop-place-preserved
loop-place-preserved c =
    let until = c.loop-place.invariant.1 in
    let to = c.run_to-run.ensures in (
      to,
      elim c.if-run-best.branch [
        | then-run-best w ↦ rw w.best-is (replaced until to (let h = w.if-run-best.true in omega arith))
        | else-run-best w ↦ rw w.best-is (kept until to (let h = w.if-run-best.false in omega arith))
      ],
    )

pub returns-clause-longest : goal.returns-clause-longest
returns-clause-longest c = none_longer (let test = c.loop-place-test.false in omega arith) c.loop-place.invariant.1

pub returns-clause-accepted : goal.returns-clause-accepted
returns-clause-accepted c =
    let best = c.loop-place.invariant.1 in
    not_refused _ _ _ _ best.is.from (omega (arith, best.within)) best.is.holds

pub returns-clause-letters : goal.returns-clause-letters
returns-clause-letters c = c.loop-place.invariant.1.is.low

pub returns-clause-is_run : goal.returns-clause-is_run
returns-clause-is_run c = c.loop-place.invariant.1.is.holds

pub returns-clause-within : goal.returns-clause-within
returns-clause-within c = omega (arith, c.loop-place.invariant.1.within)
