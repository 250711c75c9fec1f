use Rattle.legacy_decoder_engine.proofs.{JoinedReads.{reads_more}, WrittenReads.{reads_none}}
use Rattle.legacy_decoder_engine.proofs.forms.read_all.Goals as goal

pub loop-at-preserved : goal.loop-at-preserved
loop-at-preserved g c =
    let ascii = c.read_ascii-ascii.ensures.ahead _ (g.met.C.LaneCodec.ascii c.args.forms.now.tables) in
    reads_more (reads_more c.loop-at.invariant ascii) c.read_row-row.ensures.ahead

pub loop-at-init : goal.loop-at-init
loop-at-init g c = reads_none g.T.Destination _ _ _

pub returns-then-src-at-lt-FOUR_BYTES-clause-ahead : goal.returns-then-src-at-lt-FOUR_BYTES-clause-ahead
returns-then-src-at-lt-FOUR_BYTES-clause-ahead g c =
    let ascii = c.read_ascii-ascii.ensures.ahead _ (g.met.C.LaneCodec.ascii c.args.forms.now.tables) in
    reads_more (reads_more c.loop-at.invariant ascii) c.read_last.ensures

pub returns-then-is_over-clause-ahead : goal.returns-then-is_over-clause-ahead
returns-then-is_over-clause-ahead g c =
    let ascii = c.read_ascii-ascii.ensures.ahead _ (g.met.C.LaneCodec.ascii c.args.forms.now.tables) in
    reads_more (reads_more c.loop-at.invariant ascii) c.read_row-row.ensures.ahead

pub returns-then-left-eq0-clause-ahead : goal.returns-then-left-eq0-clause-ahead
returns-then-left-eq0-clause-ahead g c =
    let ascii = c.read_ascii-ascii.ensures.ahead _ (g.met.C.LaneCodec.ascii c.args.forms.now.tables) in
    reads_more (reads_more c.loop-at.invariant ascii) c.read_row-row.ensures.ahead
