use Rattle.std.proofs.Common.{◌≡◌, ◌+◌, ◌-◌, ◌*◌, ◌/◌, ◌≤◌, take}
use Rattle.legacy_decoder_engine.specs.LaneCodes.{ascii_count}
use Rattle.legacy_decoder_engine.proofs.lanes.byte_total.Given as goal

abbrev pub invariant-loop-group : goal.invariant-loop-group
invariant-loop-group l = record {
  within : l.group ≤ l.count / 8;
  most : l.bytes ≤ 16 * l.group;
  counted : l.bytes + ascii_count (take (8 * l.group) l.kept) ≡ 16 * l.group;
}

abbrev pub decreases-loop-group : goal.decreases-loop-group
decreases-loop-group l = l.count / 8 - l.group
