use Rattle.std.proofs.Common.{◌≡◌, ◌+◌, ◌*◌, ◌-◌, length}
use Rattle.legacy_command.proofs.host.files_of.Given as goal

-- each INDEX and FILE so far gave one entry
abbrev pub invariant-pairs : goal.invariant-pairs
invariant-pairs g l = 2 * length l.files.items + length l.rest ≡ length l.words - 1

abbrev pub decreases-pairs : goal.decreases-pairs
decreases-pairs g l = length l.rest
