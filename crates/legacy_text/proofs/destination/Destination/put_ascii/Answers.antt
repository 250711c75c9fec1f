use Rattle.std.proofs.Common.{arith}
use Rattle.legacy_text.proofs.destination.Destination.put_ascii.Goals as goal

pub from-requires : goal.from-requires
from-requires g c = omega arith
