use Rattle.{std.{proofs.Common.{◌≡◌, ℕ, ◌<◌, take}, specs.Int.bit_at}, legacy_text.proofs.ByteUnits.IsStored}
use Rattle.legacy_text.proofs.byte_units.store_scalars.Given as goal

-- the earlier contents are kept, and each byte whose bit is not set is stored
abbrev pub invariant-loop-past : goal.invariant-loop-past
invariant-loop-past l = record {
  front : take l.at l.dst ≡ take l.at l.fn.dst;
  stored : (i : ℕ) → i < 64 → bit_at l.past i ≡ 0 → IsStored l.entries l.bytes l.dst l.at i;
}

abbrev pub decreases-loop-past : goal.decreases-loop-past
decreases-loop-past l = l.past
