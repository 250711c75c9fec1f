use Rattle.std.proofs.Common.{arith, sym, append-nil, append_assoc}
use Rattle.std.proofs.lemmas.List.{map_more, take_all}
use Rattle.legacy_codecs.proofs.shared_by_runs.push_items.Goals as goal

pub loop-item-init : goal.loop-item-init
loop-item-init g c = record { items = sym (append-nil c.args.events.now.items); len = omega arith; capacity = omega arith }

pub loop-item-preserved : goal.loop-item-preserved
loop-item-preserved g c = grind (arith, append_assoc, map_more)

pub push_within-requires : goal.push_within-requires
push_within-requires g c =
    omega (arith, c.requires, c.loop-item.invariant.len, c.loop-item.invariant.capacity, c.loop-item-test.true)

pub returns : goal.returns
returns g c = record {
  items = rw (take_all c.loop-item.item-index c.args.items.now c.loop-item-test.false) at c.loop-item.invariant.items;
  len = omega (arith, c.loop-item.invariant.len, c.loop-item-test.false, c.loop-item.auto.item-index-end);
  capacity = c.loop-item.invariant.capacity;
}
