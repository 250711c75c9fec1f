use Rattle.std.proofs.Common.{◌≡◌, ◌<◌, ◌≤◌, ◌-◌, ℕ, length, get_or, true}
use Rattle.{legacy_base.specs.Latin1.is_latin1_byte, legacy_single_byte.specs.SingleByteDecoder.single_byte_entries}
use Rattle.legacy_single_byte.proofs.single_byte.decoder.SingleByteDecoder.latin1_byte_compatible_up_to.Given as goal

-- the first `count` bytes are Latin-1
abbrev pub invariant-loop-count : goal.invariant-loop-count
invariant-loop-count l = (l.count ≤ length l.bytes) × ((k : ℕ) → k < l.count → is_latin1_byte (single_byte_entries l.self) (get_or l.bytes k 0) ≡ true)

abbrev pub decreases-loop-count : goal.decreases-loop-count
decreases-loop-count l = length l.bytes - l.count
