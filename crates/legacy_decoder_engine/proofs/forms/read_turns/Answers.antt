use Rattle.std.proofs.Common.{arith}
use Rattle.legacy_decoder_engine.proofs.WrittenReads.{writes_none, writes_next}
use Rattle.legacy_decoder_engine.proofs.forms.read_turns.Goals as goal

pub loop-left-init : goal.loop-left-init
loop-left-init g c = (omega arith, omega arith, omega arith, writes_none g.T.Destination _ _)

pub returns-then-not-goes_on-clause-writes : goal.returns-then-not-goes_on-clause-writes
returns-then-not-goes_on-clause-writes g c = writes_next g.T.Destination c.args.src.now c.loop-left.at _ c.loop-left.invariant.3 c.read_turn-read.ensures.writes

pub loop-left-preserved : goal.loop-left-preserved
loop-left-preserved g c = (
  omega arith,
  omega arith,
  omega arith,
  writes_next g.T.Destination c.args.src.now c.loop-left.at _ c.loop-left.invariant.3 c.read_turn-read.ensures.writes,
)

pub returns-clause-writes : goal.returns-clause-writes
returns-clause-writes g c = c.loop-left.invariant.3
