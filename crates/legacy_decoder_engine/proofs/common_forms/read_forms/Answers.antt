use Rattle.std.proofs.Common.{arith}
use Rattle.legacy_decoder_engine.proofs.{JoinedReads.{reads_written}, Rests.{rest_long}, WrittenReads.{reads_none, writes_none, writes_next}}
use Rattle.legacy_decoder_engine.proofs.common_forms.read_forms.Goals as goal

pub returns-then-turns-eq0-clause-ahead : goal.returns-then-turns-eq0-clause-ahead
returns-then-turns-eq0-clause-ahead g c = reads_none g.T.Destination _ _ _

pub loop-left-init : goal.loop-left-init
loop-left-init g c = (omega arith, omega arith, omega arith, writes_none g.T.Destination _ _)

pub read_turns-read-requires-clause-source : goal.read_turns-read-requires-clause-source
read_turns-read-requires-clause-source g c = omega (arith, rest_long c.args.src.now c.loop-left.at)

pub read_turns-read-requires-clause-room : goal.read_turns-read-requires-clause-room
read_turns-read-requires-clause-room g c = omega arith

pub returns-then-not-goes_on-clause-most : goal.returns-then-not-goes_on-clause-most
returns-then-not-goes_on-clause-most g c = omega arith

pub returns-then-not-goes_on-clause-ahead : goal.returns-then-not-goes_on-clause-ahead
returns-then-not-goes_on-clause-ahead g c =
    reads_written (omega arith) (writes_next g.T.Destination c.args.src.now c.loop-left.at _ c.loop-left.invariant.3 c.read_turns-read.ensures.writes)
    (omega arith) (omega arith)

pub loop-left-preserved : goal.loop-left-preserved
loop-left-preserved g c = (
  omega arith,
  omega arith,
  omega arith,
  writes_next g.T.Destination c.args.src.now c.loop-left.at _ c.loop-left.invariant.3 c.read_turns-read.ensures.writes,
)

pub read_turns-requires-clause-source : goal.read_turns-requires-clause-source
read_turns-requires-clause-source g c = omega (arith, rest_long c.args.src.now c.loop-left.at)

pub read_turns-requires-clause-room : goal.read_turns-requires-clause-room
read_turns-requires-clause-room g c = omega arith

pub returns-clause-most : goal.returns-clause-most
returns-clause-most g c = omega arith

pub returns-clause-ahead : goal.returns-clause-ahead
returns-clause-ahead g c =
    reads_written (omega arith) (writes_next g.T.Destination c.args.src.now c.loop-left.at _ c.loop-left.invariant.3 c.read_turns.ensures.writes) (omega arith)
    (omega arith)
