use Rattle.std.proofs.Common.{◌≡◌, length, rules}
use Rattle.legacy_decoder_engine.proofs.lanes.entry_count.Goals as goal

pub returns-clause-count : goal.returns-clause-count
returns-clause-count g c =
    let all : c.match-index.entries ≡ length (g.C.LaneCodec.entries c.args.tables.now.flat) = search rules in
    rw (all, c.pointer_count.ensures.count) at c.min.ensures
