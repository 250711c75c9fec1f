use Rattle.std.proofs.Common.{◌≡◌, ◌≤◌, ◌+◌, ◌++◌, vec_len, take, map}
use Rattle.std.specs.Prelude.{vec_capacity}
use Rattle.legacy_codecs.proofs.shared_by_runs.push_items.Given as goal

abbrev pub invariant-loop-item : goal.invariant-loop-item
invariant-loop-item g l = record {
  items : l.events.items ≡ l.fn.events.items ++ map g.E.EventOf.event (take l.item-index l.items);
  len : vec_len l.events ≡ vec_len l.fn.events + l.item-index;
  capacity : vec_capacity l.fn.events ≤ vec_capacity l.events;
}
