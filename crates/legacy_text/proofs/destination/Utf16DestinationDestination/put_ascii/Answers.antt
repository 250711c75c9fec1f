use Rattle.std.proofs.Common.{arith}
use Rattle.legacy_text.proofs.destination.Utf16DestinationDestination.put_ascii.Goals as goal

pub bounds-self-at : goal.bounds-self-at
bounds-self-at c = omega arith

pub from-requires : goal.from-requires
from-requires c = omega arith
