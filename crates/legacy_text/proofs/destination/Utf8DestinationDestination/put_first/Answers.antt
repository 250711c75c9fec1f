use Rattle.std.proofs.Common.{◌-◌, take, arith}
use Rattle.legacy_text.proofs.UnitLanes.{first_stored}
use Rattle.legacy_text.proofs.destination.Utf8DestinationDestination.put_first.Goals as goal

pub overflow_sub-self-2 : goal.overflow_sub-self-2
overflow_sub-self-2 c =
    let put = c.put_eight_units-end in
    let old = c.args.self.now in
    grind (arith, first_stored old.filled put.result (8 - c.args.count) old.buffer.now put.new.dst (take c.args.count c.args.units))

pub first_units-requires : goal.first_units-requires
first_units-requires c = omega arith

pub overflow_sub-self : goal.overflow_sub-self
overflow_sub-self c = omega arith

pub slice_bounds-put_eight_units-end : goal.slice_bounds-put_eight_units-end
slice_bounds-put_eight_units-end c = omega arith
