use Rattle.legacy_decoder_engine.proofs.JoinedReads.{reads_more}
use Rattle.legacy_decoder_engine.proofs.lane_blocks.read_by_tables.Goals as goal

pub returns-then-ascii-src : goal.returns-then-ascii-src
returns-then-ascii-src g c = c.read_ascii-ascii.ensures.ahead (g.C.LaneCodec.grammar c.args.tables.now.flat) (g.met.C.LaneCodec.ascii c.args.tables.now)

pub returns-in_default : goal.returns-in_default
returns-in_default g c = c.read_ascii-ascii.ensures.ahead (g.C.LaneCodec.grammar c.args.tables.now.flat) (g.met.C.LaneCodec.ascii c.args.tables.now)

pub returns : goal.returns
returns g c =
    let ascii = c.read_ascii-ascii.ensures.ahead (g.C.LaneCodec.grammar c.args.tables.now.flat) (g.met.C.LaneCodec.ascii c.args.tables.now) in
    reads_more ascii (rw c.in-Some.ensures at c.read_flat.ensures)
