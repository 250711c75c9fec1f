use Rattle.std.proofs.Common.{arith}
use Rattle.legacy_decoder_engine.proofs.JoinedReads.{reads_ascii, reads_more}
use Rattle.legacy_decoder_engine.proofs.WrittenReads.{reads_none}
use Rattle.legacy_decoder_engine.proofs.read_ahead.read_wide_blocks.Goals as goal

pub returns-then-count-lt64-clause-ahead : goal.returns-then-count-lt64-clause-ahead
returns-then-count-lt64-clause-ahead g c grammar law =
    let e = c.put_front-count.ensures in
    reads_more (c.loop-at.invariant.1 grammar law) (reads_ascii law (omega arith) e.ascii e.contents e.room e.loan (λ h. omega arith))

pub loop-at-preserved : goal.loop-at-preserved
loop-at-preserved g c =
    let e = c.put_front-count.ensures in (
      omega arith,
      λ grammar law. reads_more (c.loop-at.invariant.1 grammar law)
          (reads_ascii law (omega arith) e.ascii e.contents e.room e.loan (λ h. omega arith)),
    )

pub loop-at-init : goal.loop-at-init
loop-at-init g c = (omega arith, λ grammar law. reads_none g.T.Destination _ _ _)

pub returns-else-free : goal.returns-else-free
returns-else-free g c = let i = c.loop-at.invariant in record { read = i.0; ahead = i.1 }

pub returns-after-loop-at : goal.returns-after-loop-at
returns-after-loop-at g c = let i = c.loop-at.invariant in record { read = i.0; ahead = i.1 }
