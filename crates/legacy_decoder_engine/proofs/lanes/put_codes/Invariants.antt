use Rattle.std.proofs.Common.{◌-◌, ◌+◌, ◌*◌, ◌≤◌}
use Rattle.legacy_decoder_engine.specs.LaneCodes.{AreWritten}
use Rattle.legacy_decoder_engine.proofs.lanes.put_codes.Given as goal

abbrev pub invariant-loop-group : goal.invariant-loop-group
invariant-loop-group g l = record {
  within : l.group ≤ l.groups;
  slack : g.T.Destination.room l.fn.dst ≤ g.T.Destination.room l.dst + 24 * l.group;
  writes : AreWritten g.T.Destination (g.C.LaneCodec.grammar l.tables.flat) l.fn.codes l.codes (8 * l.group) l.fn.dst l.dst;
}

abbrev pub decreases-loop-group : goal.decreases-loop-group
decreases-loop-group g l = l.groups - l.group
