use Rattle.std.proofs.Common.{arith}
use Rattle.legacy_text.proofs.destination.Utf8DestinationDestination.put_entry.Goals as goal

pub bounds-bytes-3 : goal.bounds-bytes-3
bounds-bytes-3 c = omega arith

pub from-requires : goal.from-requires
from-requires c = omega arith

pub store_four-requires : goal.store_four-requires
store_four-requires c = omega arith
