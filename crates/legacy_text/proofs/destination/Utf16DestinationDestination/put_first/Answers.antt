use Rattle.std.proofs.Common.{arith}
use Rattle.legacy_text.proofs.destination.Utf16DestinationDestination.put_first.Goals as goal

pub overflow_add-self : goal.overflow_add-self
overflow_add-self c = omega arith

pub store_units-requires : goal.store_units-requires
store_units-requires c = omega arith
